-- Laws that the checker has shown: what the conditions that calls share say where none of them holds.
use Rattle.std.specs.Prelude.{false, List, ◌++◌, ◌≡◌, ℕ, ◌<◌, eqb, length}
use Rattle.std.proofs.Common.{sym, ◌∙◌, arith, eqb-true}
use Rattle.std.proofs.lemmas.Bool.{not-false}
use Rattle.common.specs.RefusalLaws.{NoneHolds, NoneGivesZero, numbered_parts, none_parts, zero_parts, none_holds}
use Rattle.common.specs.Refusals.{Condition, refusal_by}
use Rattle.system.specs.System.{System}
use Rattle.table.specs.TableConditions.{table_conditions, empty_slot_conditions, loaded_slot_conditions}
use Rattle.table.specs.TableConditionLaws.{HoldsPattern, table_numbered, empty_slot_numbered, loaded_slot_numbered, table_sound_law, empty_below, loaded_holds}
use Rattle.system.specs.Conditions.{system_conditions}
use Rattle.table.specs.SoundLaws.{TableSound, loaded_slot_law}
use Rattle.table.specs.Table.{slot_at, is_empty}

-- a sound table with a memory of its length
pub record SoundSystem (x : System) : Type 0 where
  pub table : TableSound x.table
  pub fits : length x.memory ≡ x.table.size

-- ---- the table's conditions and the memory's

pub system_numbered : (x : System) → NoneGivesZero (system_conditions x)
unfolding system_conditions
system_numbered x = numbered_parts (table_conditions x.table) _ (table_numbered x.table) (λ e. omega arith, tt)

pub system_sound : (x : System) → NoneHolds (system_conditions x) → SoundSystem x
unfolding system_conditions
system_sound x h =
    let (table, (fits, _)) = none_parts (table_conditions x.table) _ h in
    record {
      table = table_sound_law x.table table;
      fits = eqb-true (length x.memory) x.table.size (not-false (eqb (length x.memory) x.table.size) fits);
    }

-- ---- calls at a slot that holds a pattern

pub record ReadySlot (x : System) (k : ℕ) : Type 0 where
  pub system : SoundSystem x
  pub holds : HoldsPattern x.table k

pub loaded_ready : (x : System) (k : ℕ) → SoundSystem x → k < 8 → is_empty (slot_at x.table k) ≡ false → ReadySlot x k
loaded_ready x k g q m = record { system = g; holds = record { table = g.table; slot = q; loaded = loaded_slot_law _ _ (g.table.slots.each k q) m } }

pub ready_numbered : (x : System) (k : ℕ) → NoneGivesZero (system_conditions x ++ loaded_slot_conditions x.table k)
ready_numbered x k = numbered_parts (system_conditions x) (loaded_slot_conditions x.table k) (system_numbered x) (loaded_slot_numbered x.table k)

none_ready : (x : System) (k : ℕ) → NoneHolds (system_conditions x ++ loaded_slot_conditions x.table k) → ReadySlot x k
none_ready x k h =
    let (memory, loaded) = none_parts (system_conditions x) (loaded_slot_conditions x.table k) h in
    let g : SoundSystem x = system_sound x memory in
    record { system = g; holds = loaded_holds x.table k g.table loaded }

pub ready_parts : (x : System) (k : ℕ) (own : List Condition) → refusal_by (system_conditions x ++ loaded_slot_conditions x.table k ++ own) ≡ 0 → ReadySlot x k × (refusal_by own ≡ 0)
ready_parts x k own e =
    let m = zero_parts (system_conditions x ++ loaded_slot_conditions x.table k) own (ready_numbered x k) e in
    (none_ready x k m.0, m.1)

pub refusal_ready : (x : System) (k : ℕ) {n : ℕ} → n ≡ refusal_by (system_conditions x ++ loaded_slot_conditions x.table k) → n ≡ 0 → ReadySlot x k
refusal_ready x k e none = none_ready x k (none_holds (system_conditions x ++ loaded_slot_conditions x.table k) (ready_numbered x k) (sym e ∙ none))

-- ---- a load, before its file is read

pub vacant_numbered : (x : System) (k : ℕ) → NoneGivesZero (system_conditions x ++ empty_slot_conditions x.table k)
vacant_numbered x k = numbered_parts (system_conditions x) (empty_slot_conditions x.table k) (system_numbered x) (empty_slot_numbered x.table k)

pub vacant_slot : (x : System) (k : ℕ) → NoneHolds (system_conditions x ++ empty_slot_conditions x.table k) → SoundSystem x × (k < 8)
vacant_slot x k h =
    let (memory, empty) = none_parts (system_conditions x) (empty_slot_conditions x.table k) h in
    (system_sound x memory, empty_below x.table k empty)
