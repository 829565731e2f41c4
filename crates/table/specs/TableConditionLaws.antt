-- Laws that the checker has shown: what the conditions of a table and of a slot say where none of them holds.
use Rattle.std.specs.Prelude.{Bool, ◌++◌, ℕ, ◌≤◌, ◌<◌}
use Rattle.std.proofs.Math.Bool.{true, false, not}
use Rattle.std.proofs.Math.Path.{◌≡◌, refl}
use Rattle.std.proofs.Common.{sym, ◌∙◌, arith, ltb-false}
use Rattle.std.proofs.lemmas.Bool.{not-false}
use Rattle.common.specs.Choice.{when◌then◌else◌}
use Rattle.common.specs.ConditionDefinitions.{condition_definitions}
use Rattle.common.specs.RefusalLaws.{NoneHolds, NoneGivesZero, zero_parts, none_holds}
use Rattle.common.specs.Refusals.{refusal_by}
use Rattle.table.specs.TableConditions.{table_conditions, empty_slot_conditions, loaded_slot_conditions}
use Rattle.table.specs.SoundLaws.{Loaded, TableSound, table_fact, loaded_slot_law}
use Rattle.table.specs.Table.{slot_at}
use Rattle.table.specs.Sound.{table_sound}
use Rattle.table.specs.declared.table.Table.{Table}

-- slot k of a sound table holds a pattern
pub record HoldsPattern (t : Table) (k : ℕ) : Type 0 where
  pub table : TableSound t
  pub slot : k < 8
  pub loaded : Loaded t.size (slot_at t k)

-- ---- each list has numbers

pub table_numbered : (t : Table) → NoneGivesZero (table_conditions t)
unfolding table_conditions
table_numbered t = (λ e. omega arith, tt)

pub empty_slot_numbered : (t : Table) (k : ℕ) → NoneGivesZero (empty_slot_conditions t k)
unfolding empty_slot_conditions
empty_slot_numbered t k = (λ e. omega arith, (λ e. omega arith, tt))

pub loaded_slot_numbered : (t : Table) (k : ℕ) → NoneGivesZero (loaded_slot_conditions t k)
unfolding loaded_slot_conditions
loaded_slot_numbered t k = (λ e. omega arith, (λ e. omega arith, tt))

-- ---- what they say where none holds

pub table_sound_law : (t : Table) → NoneHolds (table_conditions t) → TableSound t
unfolding table_conditions
table_sound_law t h = table_fact t (not-false (table_sound t) h.0)

pub empty_below : (t : Table) (k : ℕ) → NoneHolds (empty_slot_conditions t k) → k < 8
unfolding empty_slot_conditions
empty_below t k h = let l : k ≤ 7 = ltb-false 7 k h.0 in omega arith

pub loaded_holds : (t : Table) (k : ℕ) → TableSound t → NoneHolds (loaded_slot_conditions t k) → HoldsPattern t k
unfolding loaded_slot_conditions
loaded_holds t k s h =
    let (slot, (loaded, _)) = h in
    let l : k ≤ 7 = ltb-false 7 k slot in
    let q : k < 8 = omega arith in
    record { table = s; slot = q; loaded = loaded_slot_law t.size (slot_at t k) (s.slots.each k q) loaded }

-- ---- calls with a table alone

-- a table is refused by 1 exactly if it is unsound
module _ (t : Table) {n : ℕ} (e : n ≡ refusal_by (table_conditions t)) where
  table_answer : n ≡ (when table_sound t then 0 else 1)
  unfolding table_conditions condition_definitions
  table_answer = e ∙ go (table_sound t)
    where
      go : (b : Bool) → ◌≡◌ {A = ℕ} (when not b then 1 else 0) (when b then 0 else 1)
      go true = refl
      go false = refl

  pub table_accepted : n ≡ 0 → table_sound t ≡ true
  unfolding when◌then◌else◌
  table_accepted none = go (table_sound t) refl table_answer
    where
      go : (b : Bool) → table_sound t ≡ b → n ≡ (when b then 0 else 1) → table_sound t ≡ true
      go true h a = h
      go false h a = absurd (omega arith)

  pub table_refused : (n ≡ 0 → ⊥) → (n ≡ 1) × (table_sound t ≡ false)
  unfolding when◌then◌else◌
  table_refused some = go (table_sound t) refl table_answer
    where
      go : (b : Bool) → table_sound t ≡ b → n ≡ (when b then 0 else 1) → (n ≡ 1) × (table_sound t ≡ false)
      go true h a = absurd (some a)
      go false h a = (a, h)

-- ---- a call at a slot that holds a pattern

pub holds_pattern : (t : Table) (k : ℕ) {n : ℕ} → n ≡ refusal_by (table_conditions t ++ loaded_slot_conditions t k) → n ≡ 0 → HoldsPattern t k
holds_pattern t k e none =
    let s = zero_parts (table_conditions t) (loaded_slot_conditions t k) (table_numbered t) (sym e ∙ none) in
    loaded_holds t k (table_sound_law t s.0) (none_holds (loaded_slot_conditions t k) (loaded_slot_numbered t k) s.1)
