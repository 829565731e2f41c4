-- What a refused draining answers and leaves, and the buffer after an accepted one: the written bytes all lie in memory, and there is room for them.
use Prim.Native.Nat.{ℕ, ◌≤◌}
use mathlib.Core.List.{List}
use mathlib.Core.Path.{◌≡◌, sym, ◌∙◌}
use native.Mathlib.Omega.{arith}
use lib.ListN.{length}
use Rattle.std.specs.Prelude.{Result, Ok, Err, IsErrAnd, MatchResult}
use Rattle.std.proofs.Common.{ap, ne_eqb}
use Rattle.common.specs.Choice.{when◌then◌else◌}
use Rattle.common.specs.RefusalLaws.{number_some}
use Rattle.common.specs.Refusals.{refusal_in, refusal_number}
use Rattle.common.specs.declared.refusals.Refusal.{Refusal}
use Rattle.slices.specs.SliceLaws.{part_length, copied_front}
use Rattle.slices.specs.Slices.{part_of, copied}
use Rattle.supervisor.specs.Calls.{change, drain, refusal, outcome_of, drained_buffer, drained_count}
use Rattle.supervisor.specs.CallLaws.{refused_outcome}
use Rattle.supervisor.proofs.ChangeLaws.{drain_accepted}
use Rattle.system.specs.System.{System, slot_of}
use Rattle.supervisor.specs.Draining.{count_in, drain_outcome, written_bytes}
use Rattle.supervisor.specs.declared.draining.Drained.{Drained}
use Rattle.table.specs.CheckLaws.{refused_with}
use Rattle.table.specs.Table.{partition_end}
use Rattle.table.specs.declared.table.RefusedCall.{RefusedCall}
use Rattle.supervisor.specs.Location.{output_location}
use Rattle.table.specs.declared.table.Partition.{Partition}

-- what a check refused, handed on with the table: nothing is drained
module _ {A : Type 0} {P : Refusal → RefusedCall → Type 0} (x : System) (k : ℕ) (buffer : List ℕ) (check : Result A Refusal) (mapped : Result A RefusedCall) (e : RefusedCall)
    (r : Result Drained RefusedCall) (refused : refusal_in check ≡ refusal (change k (drain (length buffer))) x)
    (cases : MatchResult check (λ a. mapped ≡ Ok a) (λ q. IsErrAnd mapped (P q))) (was : mapped ≡ Err e) (h : IsErrAnd r (λ y. y ≡ e))
    (with_table : (q : Refusal) (y : RefusedCall) → P q y → y ≡ record { refusal = q; table = x.table }) where
  pub refused_drain :
      (drain_outcome r x.memory ≡ outcome_of (change k (drain (length buffer))) x)
      × (count_in r ≡ drained_count x k (length buffer))
      × (buffer ≡ drained_buffer x k buffer)
  unfolding drained_count drained_buffer when◌then◌else◌
  refused_drain =
      let (q, is, same) = refused_with check mapped e r x.table cases was h with_table in
      let n : refusal_number q ≡ refusal (change k (drain (length buffer))) x = sym same ∙ refused in (
        ap (λ (z : Result Drained RefusedCall). drain_outcome z x.memory) is ∙ refused_outcome (change k (drain (length buffer))) x n (number_some q),
        ap count_in is ∙ rw (← n, ne_eqb (refusal_number q) 0 (number_some q)),
        rw (← n, ne_eqb (refusal_number q) 0 (number_some q)),
      )

pub drained_buffer_law : (x : System) (k : ℕ) (buffer : List ℕ) {n : ℕ} → n ≡ refusal (change k (drain (length buffer))) x → n ≡ 0
    → copied buffer 0
    (part_of x.memory (output_location (slot_of x k).partition).0 (slot_of x k).state.written)
    ≡ drained_buffer x k buffer
unfolding written_bytes drained_buffer when◌then◌else◌
drained_buffer_law x k buffer e none =
    let p : Partition = (slot_of x k).partition in
    let n : ℕ = (slot_of x k).state.written in
    let z : refusal (change k (drain (length buffer))) x ≡ 0 = sym e ∙ none in
    let h = drain_accepted x k (length buffer) e none in
    let inside : partition_end p ≤ x.table.size = h.0.holds.loaded.partition.inside in
    let fits : n ≤ p.layout.output = h.0.holds.loaded.state.written in
    let whole : length (part_of x.memory (output_location p).0 n) ≡ n = part_length x.memory (output_location p).0 n (omega (arith, h.0.system.fits)) in
    copied_front buffer (part_of x.memory (output_location p).0 n) (omega (arith, h.1, whole)) ∙ rw (whole, z)
