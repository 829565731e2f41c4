-- Definitions that must be believed: what a host may rely on in the load that comes next after a fit (document 02, U2: finding a place for a
-- bay). FitThenLoadTheorem.antt proves it.
use Rattle.std.specs.Prelude.{ℕ, ◌<◌, length, true, List, ◌≢◌, ◌≡◌}
use Rattle.common.specs.Layout.{layout_size}
use Rattle.pattern.specs.Reader.{parameters_of, read_of, read_refusal}
use Rattle.queries.specs.Queries.{fit, fit_of}
use Rattle.supervisor.specs.Calls.{change, load, query, refusal, after_call}
use Rattle.system.specs.System.{System, slot_of}
use Rattle.table.specs.Table.{is_empty}

-- what refuses the load of a file at the answer of a fit, as the next call on the same table
abbrev pub refusal_at_fit : System → ℕ → ℕ → List ℕ → ℕ
refusal_at_fit x size k file = refusal (change k (load (fit_of x.table size).location file)) (after_call (query (fit size)) x)

-- what is promised of two calls where the fit is accepted: the fit, and then the load of a file whose partition has that size, at the answer
pub record FitThenLoad (x : System) (size : ℕ) : Type 0 where
  -- the load is never refused because its partition ends past the memory, or because it meets another
  pub never : (k : ℕ) (file : List ℕ) → layout_size (parameters_of file).layout ≡ size → (refusal_at_fit x size k file ≢ 12) × (refusal_at_fit x size k file ≢ 13)
  -- with the table's memory, an empty slot and a file that the reader accepts it is accepted
  pub accepted :
      (k : ℕ) (file : List ℕ) → layout_size (parameters_of file).layout ≡ size → length x.memory ≡ x.table.size → k < 8 → is_empty (slot_of x k) ≡ true
      → read_refusal (read_of file) ≡ 0 → refusal_at_fit x size k file ≡ 0
