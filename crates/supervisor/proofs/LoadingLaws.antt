-- Loading: the conditions in parts, and what an accepted and a refused file say.
use Prim.Native.Nat.{ℕ}
use mathlib.Core.List.{List, ◌++◌}
use mathlib.Core.Path.{◌≡◌, sym, ◌∙◌}
use Rattle.std.specs.Prelude.{Result, Ok, Err, IsErrAnd}
use Rattle.std.proofs.Common.{ne_eqb}
use Rattle.table.specs.CheckLaws.{front_refuses, front_passes}
use Rattle.common.specs.RefusalLaws.{number_some}
use Rattle.common.specs.Refusals.{Condition, refusal_by, refusal_in, refusal_number}
use Rattle.common.specs.declared.refusals.Refusal.{Refusal}
use Rattle.common.specs.declared.places.Location.{Location}
use Rattle.pattern.specs.Reader.{parameters_of, read_of, read_result}
use Rattle.pattern.specs.ReaderLaws.{accepted_fact}
use Rattle.pattern.specs.declared.parameters.Parameters.{Parameters}
use Rattle.supervisor.specs.Calls.{load, change, change_conditions, refusal}
use Rattle.system.specs.ConditionLaws.{vacant_numbered}
use Rattle.system.specs.System.{System}
use Rattle.table.specs.TableConditions.{empty_slot_conditions}
use Rattle.system.specs.Conditions.{system_conditions}
use Rattle.supervisor.specs.Loading.{file_conditions, location_conditions, partition_for}
use Rattle.common.specs.ConditionDefinitions.{condition_definitions}

-- ---- the conditions in parts

abbrev vacant_conditions : System → ℕ → List Condition
vacant_conditions x k = system_conditions x ++ empty_slot_conditions x.table k

module _ (x : System) (k : ℕ) where
  module _ (location : Location) (file : List ℕ) where
    abbrev own_conditions : List Condition
    own_conditions = file_conditions file ++ location_conditions x.table k (partition_for location (parameters_of file))

    -- refused before its file is read
    pub load_stops : {A : Type 0} (r : Result A Refusal) (e : Refusal) → refusal_number e ≡ refusal_by (system_conditions x ++ empty_slot_conditions x.table k)
        → IsErrAnd r (λ y. y ≡ e) → refusal_in r ≡ refusal (change k (load location file)) x
    unfolding refusal change_conditions
    load_stops r e refused h = front_refuses (vacant_conditions x k) own_conditions (vacant_numbered x k) r e refused h

    module _ (passed : 0 ≡ refusal_by (system_conditions x ++ empty_slot_conditions x.table k)) where
      -- by its file
      pub load_refused : (q : Refusal) → read_result (Err q) ≡ read_of file → refusal_number q ≡ refusal (change k (load location file)) x
      unfolding refusal change_conditions condition_definitions file_conditions
      load_refused q read =
          front_passes (vacant_conditions x k) own_conditions (vacant_numbered x k) passed
          (rw (← read, ne_eqb (refusal_number q) 0 (number_some q)))

      -- by its location, or not at all
      pub load_places : (v : Parameters) → read_result (Ok v) ≡ read_of file → {n : ℕ}
          → n ≡ refusal_by (location_conditions x.table k (partition_for location v)) → n ≡ refusal (change k (load location file)) x
      unfolding refusal change_conditions condition_definitions file_conditions
      load_places v read {n} e =
          front_passes (vacant_conditions x k) own_conditions (vacant_numbered x k) passed
          (e ∙ rw (← read, (accepted_fact file v (sym read)).same))
