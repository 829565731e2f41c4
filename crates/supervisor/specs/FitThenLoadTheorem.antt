-- Laws that the checker has shown: `fit_then_load`, the proof of FitThenLoad.antt's statement.
use Rattle.std.specs.Prelude.{ℕ, ◌≤◌, ◌<◌, length, true, List, ◌++◌, ◌≡◌}
use Rattle.std.proofs.Math.Bool.{not}
use Rattle.std.proofs.Common.{append_assoc, sym, ◌∙◌, eq-eqb, le-ltb}
use Rattle.std.proofs.Math.Path.{refl, ap}
use native.Mathlib.Omega.{arith}
use Rattle.common.specs.Layout.{layout_size}
use Rattle.common.specs.LayoutLaws.{layout_most}
use Rattle.common.specs.RefusalLaws.{NoneHolds, none_behind, none_unless, unless_holds}
use Rattle.common.specs.Refusals.{Condition, refusal_by}
use Rattle.common.specs.TestLaws.{one_to_test}
use Rattle.pattern.specs.Reader.{parameters_of, read_of, read_refusal}
use Rattle.pattern.specs.ReaderLaws.{read_most, read_ranges, read_zero}
use Rattle.queries.specs.Queries.{fit, fit_of}
use Rattle.supervisor.specs.Calls.{change, load, refusal, change_conditions}
use Rattle.table.specs.TableConditions.{table_conditions, empty_slot_conditions}
use Rattle.system.specs.Conditions.{system_conditions}
use Rattle.supervisor.specs.FitThenLoad.{refusal_at_fit, FitThenLoad}
use Rattle.queries.specs.FitQuery.{is_size_in_range}
use Rattle.queries.specs.FitTheorem.{fit_sound, fit_inside, fit_clear}
use Rattle.supervisor.specs.Loading.{file_conditions, location_conditions, partition_for}
use Rattle.supervisor.specs.CallLaws.{query_leaves}
use Rattle.table.specs.Sound.{table_sound}
use Rattle.system.specs.System.{System, slot_of}
use Rattle.table.specs.Table.{is_empty}
use Rattle.table.specs.declared.table.Partition.{Partition}

-- what refuses a load before its location is looked at
module _ (x : System) (k : ℕ) (file : List ℕ) where
  front_conditions : List Condition
  front_conditions = (system_conditions x ++ empty_slot_conditions x.table k) ++ file_conditions file

  front_most : refusal_by front_conditions ≤ 11
  unfolding front_conditions system_conditions table_conditions empty_slot_conditions file_conditions refusal_by
  front_most = unless_holds (λ n. n) (λ n. n ≤ 11) front_conditions 0 (omega arith, (omega arith, (omega arith, (omega arith, (read_most file, tt))))) (omega arith)

  front_none : table_sound x.table ≡ true → length x.memory ≡ x.table.size → k < 8 → is_empty (slot_of x k) ≡ true → read_refusal (read_of file) ≡ 0 → refusal_by front_conditions ≡ 0
  unfolding front_conditions system_conditions table_conditions empty_slot_conditions file_conditions refusal_by
  front_none sound fits slot empty read =
      none_unless (λ n. n) front_conditions 0 (
        ap not sound,
        (ap not (eq-eqb _ _ fits), (le-ltb 7 k (omega arith), (ap not empty, (ap not (eq-eqb _ _ read), tt)))),
      )

module _ (x : System) (size : ℕ) (accepted : (fit_of x.table size).refusal ≡ 0) where
  -- a partition of that size, at the answer, is refused at no location
  location_free : (k : ℕ) (p : Partition) → p.base.0 ≡ (fit_of x.table size).location.0 → layout_size p.layout ≡ size → NoneHolds (location_conditions x.table k p)
  unfolding location_conditions
  location_free k p start same = (le-ltb _ _ (fit_inside x.table size accepted p start same), (ap not (fit_clear x.table size accepted p start same k), tt))

  refusal_at_fit_law : (k : ℕ) (file : List ℕ) → layout_size (parameters_of file).layout ≡ size → refusal_at_fit x size k file ≡ refusal_by (front_conditions x k file)
  unfolding refusal change_conditions partition_for front_conditions
  refusal_at_fit_law k file same =
      let p : Partition = partition_for (fit_of x.table size).location (parameters_of file) in
      ap (refusal (change k (load (fit_of x.table size).location file))) (query_leaves (fit size) x)
      ∙ ap refusal_by (sym (append_assoc (system_conditions x ++ empty_slot_conditions x.table k) (file_conditions file) (location_conditions x.table k p)))
      ∙ none_behind (front_conditions x k file) (location_conditions x.table k p) (location_free k p refl same)

  -- Document 02's promise of the load that comes next.
  pub fit_then_load : FitThenLoad x size
  fit_then_load =
      record {
        never = λ k file same.
            let most : refusal_at_fit x size k file ≤ 11 = rw (refusal_at_fit_law k file same) (front_most x k file) in
            (λ e. omega arith, λ e. omega arith);
        accepted = λ k file same fits slot empty read. refusal_at_fit_law k file same ∙ front_none x k file (fit_sound x.table size accepted) fits slot empty read;
      }

-- the size of the partition of a file that the reader accepts is in range
pub file_size_in_range : (file : List ℕ) → read_refusal (read_of file) ≡ 0 → is_size_in_range (layout_size (parameters_of file).layout) ≡ true
file_size_in_range file e =
    one_to_test _ 40960 (layout_most (parameters_of file).layout (read_ranges file (parameters_of file) (read_zero file e)).layout)
