-- Laws that the checker has shown: what the bytes of some version hold, and what its upgrade answers.
use Rattle.std.specs.Prelude.{Bool, true, false, ◌&&◌, List, [], ◌∷◌, ◌++◌, ◌≢◌, ◌≡◌, refl, ℕ, ◌+◌, ◌*◌, ◌≤◌, ◌<◌, eqb, length, get_or, take, drop}
use Rattle.std.proofs.Common.{sym, ap, ◌∙◌, arith, get_or-append-add, length-take-le}
use borrow.Author.Tests.{eqb-true, eq-eqb, ne_eqb}
use Rattle.common.specs.Choice.{when◌then◌else◌}
use Rattle.common.specs.ConditionDefinitions.{condition_definitions}
use Rattle.common.specs.TestLaws.{and_fact}
use Rattle.earlier.specs.EarlierTable.{unlocked_slot_length, lock_offset, with_no_lock, unlocked_slots_from_bytes, unlocked_table_length, unlocked_table_from_bytes, last_unlocked_status, statuses_up_to, uncounted_slots_offset, uncounted_table_length, uncounted_table_from_bytes, held_table, held_table_sound, upgrade_of}
use Rattle.encoding.specs.TableEncoding.{slot_length, slots_offset, table_length, partition_from_bytes, slot_from_bytes, table_from_bytes}
use Rattle.encoding.specs.TableRoundTripLaws.{TableShaped, slots_shaped, table_shaped}
use Rattle.registers.specs.State.{last_status}
use Rattle.slices.specs.Numbers.{u16_at}
use Rattle.slices.specs.PieceLaws.{each_tabulated}
use Rattle.slices.specs.SliceLaws.{part_length}
use Rattle.slices.specs.Slices.{part_of}
use Rattle.table.specs.FreeBytes.{counted}
use Rattle.table.specs.Table.{answer}
use Rattle.table.specs.Sound.{slots_sound, table_sound}
use Rattle.table.specs.SoundLaws.{slots_test, table_fact}
use Rattle.table.specs.Table.{no_slot, slot_at}
use Rattle.table.specs.declared.table.Slot.{Slot}
use Rattle.table.specs.declared.table.Table.{Table}

-- ---- what some version's bytes hold

-- it has the lengths of its type
pub held_shaped : (old : List ℕ) → TableShaped (held_table old)
unfolding held_table uncounted_table_from_bytes unlocked_table_from_bytes when◌then◌else◌
held_shaped old = go (eqb (length old) uncounted_table_length) (eqb (length old) unlocked_table_length)
  where
    earlier : ℕ → ℕ → List ℕ
    earlier at k = with_no_lock (part_of old (at + unlocked_slot_length * k) unlocked_slot_length)

    go : (a b : Bool) → TableShaped (when a then uncounted_table_from_bytes old else (when b then unlocked_table_from_bytes old else table_from_bytes old))
    go true b = record { eight = refl; all = slots_shaped 8 (earlier uncounted_slots_offset) }
    go false true = record { eight = refl; all = slots_shaped 8 (earlier slots_offset) }
    go false false = table_shaped old

-- its slots are sound, whatever the version
pub held_slots : (old : List ℕ) → held_table_sound old ≡ true → slots_sound (held_table old) ≡ true
unfolding held_table_sound when◌then◌else◌
held_slots old = go (eqb (length old) uncounted_table_length) (eqb (length old) unlocked_table_length) (held_table old)
  where
    of_table : (t : Table) → table_sound t ≡ true → slots_sound t ≡ true
    of_table t h = slots_test t (table_fact t h).slots

    go : (a b : Bool) (t : Table)
        → (when a then statuses_up_to last_unlocked_status t && slots_sound t else (when b then statuses_up_to last_unlocked_status t && table_sound t else eqb (length old) table_length && table_sound t)) ≡ true
        → slots_sound t ≡ true
    go true b t h = (and_fact (statuses_up_to last_unlocked_status t) (slots_sound t) h).1
    go false true t h = of_table t (and_fact (statuses_up_to last_unlocked_status t) (table_sound t) h).1
    go false false t h = of_table t (and_fact (eqb (length old) table_length) (table_sound t) h).1

-- ---- by the length

-- what is decoded for a length is what `held_table` says, and it is sound as `held_table_sound` says
module _ (old : List ℕ) where
  module _ (uncounted : length old ≡ uncounted_table_length) where
    pub uncounted_held : uncounted_table_from_bytes old ≡ held_table old
    unfolding held_table when◌then◌else◌
    uncounted_held = rw (eq-eqb (length old) uncounted_table_length uncounted)

    pub uncounted_sound : held_table_sound old ≡ (statuses_up_to last_unlocked_status (held_table old) && slots_sound (held_table old))
    unfolding held_table_sound when◌then◌else◌
    uncounted_sound = rw (eq-eqb (length old) uncounted_table_length uncounted)

  module _ (counted_since : length old ≢ uncounted_table_length) where
    module _ (unlocked : length old ≡ unlocked_table_length) where
      pub unlocked_held : unlocked_table_from_bytes old ≡ held_table old
      unfolding held_table when◌then◌else◌
      unlocked_held = rw (ne_eqb (length old) uncounted_table_length counted_since, eq-eqb (length old) unlocked_table_length unlocked)

      pub unlocked_sound : held_table_sound old ≡ (statuses_up_to last_unlocked_status (held_table old) && table_sound (held_table old))
      unfolding held_table_sound when◌then◌else◌
      unlocked_sound = rw (ne_eqb (length old) uncounted_table_length counted_since, eq-eqb (length old) unlocked_table_length unlocked)

    module _ (locked_since : length old ≢ unlocked_table_length) where
      pub today_held : table_from_bytes old ≡ held_table old
      unfolding held_table when◌then◌else◌
      today_held = rw (ne_eqb (length old) uncounted_table_length counted_since, ne_eqb (length old) unlocked_table_length locked_since)

      pub today_sound : held_table_sound old ≡ (eqb (length old) table_length && table_sound (held_table old))
      unfolding held_table_sound when◌then◌else◌
      today_sound = rw (ne_eqb (length old) uncounted_table_length counted_since, ne_eqb (length old) unlocked_table_length locked_since)

-- ---- an earlier version's slots lock nothing

-- two zeros behind ten bytes are a lock of 0
no_lock_at : (front rest : List ℕ) → length front ≡ lock_offset → u16_at (front ++ (0 ∷ 0 ∷ rest)) lock_offset ≡ 0
no_lock_at front rest e =
    let bytes : List ℕ = 0 ∷ 0 ∷ rest in
    let here : (i : ℕ) → get_or (front ++ bytes) (lock_offset + i) 0 ≡ get_or bytes i 0 =
    λ i. ap (λ (n : ℕ). get_or (front ++ bytes) (n + i) 0) (sym e) ∙ get_or-append-add front bytes i 0
    in
    let high : get_or (front ++ bytes) lock_offset 0 ≡ 0 = here 0 in
    let low : get_or (front ++ bytes) (lock_offset + 1) 0 ≡ 0 = here 1 in
    omega arith

no_lock : (bytes : List ℕ) → lock_offset ≤ length bytes → (slot_from_bytes (with_no_lock bytes)).partition.layout.locked ≡ 0
unfolding slot_from_bytes partition_from_bytes
no_lock bytes h = no_lock_at (take lock_offset bytes) (drop lock_offset bytes ++ []) (length-take-le lock_offset bytes h)

-- nor does what stands past the eight slots
no_slot_unlocked : no_slot.partition.layout.locked ≡ 0
no_slot_unlocked = refl

unlocked_slots : (old : List ℕ) (at : ℕ) → at + 8 * unlocked_slot_length ≡ length old → (k : ℕ) → (get_or (unlocked_slots_from_bytes at old) k no_slot).partition.layout.locked ≡ 0
unlocked_slots old at whole =
    let own : ℕ → List ℕ = λ k. part_of old (at + unlocked_slot_length * k) unlocked_slot_length in
    let own_length : (k : ℕ) → k < 8 → length (own k) ≡ unlocked_slot_length = λ k q. part_length old (at + unlocked_slot_length * k) unlocked_slot_length (omega arith) in
    each_tabulated (λ (s : Slot). s.partition.layout.locked ≡ 0) 8 (λ k. slot_from_bytes (with_no_lock (own k))) no_slot no_slot_unlocked
    (λ k q. no_lock (own k) (omega (arith, own_length k q)))

pub held_unlocked : (old : List ℕ) → held_table_sound old ≡ true → length old ≢ table_length → (k : ℕ) → (slot_at (held_table old) k).partition.layout.locked ≡ 0
unfolding held_table_sound held_table uncounted_table_from_bytes unlocked_table_from_bytes slot_at when◌then◌else◌
held_unlocked old h other k = go (eqb (length old) uncounted_table_length) (eqb (length old) unlocked_table_length) refl refl h
  where
    held : Bool → Bool → Table
    held a b = when a then uncounted_table_from_bytes old else (when b then unlocked_table_from_bytes old else table_from_bytes old)

    go : (a b : Bool) → eqb (length old) uncounted_table_length ≡ a → eqb (length old) unlocked_table_length ≡ b
        → (when a then statuses_up_to last_unlocked_status (held a b) && slots_sound (held a b) else (when b then statuses_up_to last_unlocked_status (held a b) && table_sound (held a b) else eqb (length old) table_length && table_sound (held a b))) ≡ true
        → (get_or (held a b).slots k no_slot).partition.layout.locked ≡ 0
    go true b p q s = unlocked_slots old uncounted_slots_offset (sym (eqb-true (length old) uncounted_table_length p)) k
    go false true p q s = unlocked_slots old slots_offset (sym (eqb-true (length old) unlocked_table_length q)) k
    go false false p q s = absurd (other (eqb-true (length old) table_length (and_fact (eqb (length old) table_length) (table_sound (held false false)) s).0))

-- ---- its upgrade

pub held_upgrade : (old : List ℕ) → held_table_sound old ≡ true → upgrade_of old ≡ answer 0 (counted (held_table old))
unfolding upgrade_of condition_definitions
held_upgrade old h = rw h

pub unheld_upgrade : (old : List ℕ) → held_table_sound old ≡ false → upgrade_of old ≡ answer 1 (held_table old)
unfolding upgrade_of condition_definitions
unheld_upgrade old h = rw h

-- ---- what the older forms take from today's

-- Their slots are read by today's decoder, with the lock put in, and judged by today's rules, with their own last status. A request that
-- changes a slot's bytes, or adds a status, makes one of these laws false: it has to keep what was before for the older forms.
pub slots_as_before : slot_length ≡ unlocked_slot_length + 2
slots_as_before = refl

pub statuses_as_before : last_status ≡ last_unlocked_status + 1
statuses_as_before = refl
