-- An upgrade by the version that the length of the old bytes tells, and a slot of an earlier version.
use mathlib.Core.Bool.{Bool, true, false, ◌&&◌}
use mathlib.Core.List.{List, [], ◌∷◌}
use mathlib.Core.Path.{◌≡◌, refl, sym, ap, ◌∙◌}
use Rattle.std.specs.List.{list_all}
use Rattle.std.proofs.lemmas.List.Folds.{list_all_more}
use Rattle.common.specs.Tests.{all_below}
use native.Mathlib.Numerals.{add-one}
use Prim.Native.Nat.{ℕ, zero, suc, ◌≤◌, ◌+◌, ◌-◌}
use native.Mathlib.Omega.{arith}
use lib.ListN.{length, get_or, take, drop, length-append, length-drop}
use lib.Seq.{length-take-le, take_all}
use Rattle.common.specs.ConditionDefinitions.{condition_definitions}
use Rattle.common.specs.Refusals.{refusal_by}
use Rattle.slices.specs.Numbers.{u16_bytes}
use Rattle.slices.specs.PieceLaws.{copied_each_law}
use Rattle.slices.specs.SliceLaws.{copied_all}
use Rattle.slices.specs.Slices.{copied, part_of}
use Rattle.table.specs.TableConditions.{table_conditions}
use Rattle.table.specs.Recounting.{recount_of}
use Rattle.table.specs.Table.{answer}
use Rattle.table.specs.Sound.{slots_sound, table_sound}
use Rattle.table.specs.SoundLaws.{counted_same, table_fact}
use Rattle.table.specs.declared.table.Table.{Table}
use Rattle.encoding.specs.TableEncoding.{slot_length}
use Rattle.earlier.specs.EarlierTable.{unlocked_slot_length, lock_offset, with_no_lock, held_table, held_table_sound, upgrade_of}

-- ---- by the rules of the version

module _ (old : List ℕ) (t : Table) (held : t ≡ held_table old) where
  -- a rule of the version before the others does not hold
  pub held_refused : (first others : Bool) → held_table_sound old ≡ (first && others) → first ≡ false → answer 1 t ≡ upgrade_of old
  unfolding upgrade_of condition_definitions
  held_refused first others e fails = rw (e, fails, held)

  -- it holds: then the rules of the slots, where the free bytes are counted
  pub held_recounted : (first : Bool) → held_table_sound old ≡ (first && slots_sound (held_table old)) → first ≡ true → recount_of t ≡ upgrade_of old
  unfolding recount_of upgrade_of condition_definitions
  held_recounted first e holds = rw (e, holds, held)

  -- or those of the table, which is left as it is
  pub held_judged : (first : Bool) {n : ℕ} → held_table_sound old ≡ (first && table_sound (held_table old)) → first ≡ true → n ≡ refusal_by (table_conditions t) → answer n t ≡ upgrade_of old
  unfolding table_conditions upgrade_of condition_definitions
  held_judged first {n} e holds q = go (table_sound (held_table old)) refl
    where
      go : (b : Bool) → table_sound (held_table old) ≡ b → answer n t ≡ upgrade_of old
      go true h = rw (e, holds, q, held, h) (ap (answer 0) (sym (counted_same (held_table old) (table_fact (held_table old) h))))
      go false h = rw (e, holds, q, held, h) refl

-- ---- a test of every slot

-- a test of each element of a list, by their places
pub all_listed : {A : Type 0} (test : A → Bool) (d : A) (l : List A) (n : ℕ) → length l ≡ n → list_all test l ≡ all_below n (λ k. test (get_or l k d))
unfolding all_below
all_listed {A} test d l n e = ap (list_all test) (sym (take_all n l (omega arith))) ∙ go n (omega arith)
  where
    go : (i : ℕ) → i ≤ length l → list_all test (take i l) ≡ all_below i (λ k. test (get_or l k d))
    go zero q = refl
    go (suc i) q = rw (← add-one i) (list_all_more test l i d q) ∙ ap (λ (b : Bool). b && test (get_or l i d)) (go i (omega arith))

-- ---- a slot of an earlier version

-- its bytes, put into as many as a slot has today with a lock of 0 between them
pub lock_put : (own zeros : List ℕ) → length own ≡ unlocked_slot_length → length zeros ≡ slot_length
    → part_of (copied (copied (copied zeros 0 (take lock_offset own)) lock_offset (u16_bytes 0)) (lock_offset + 2) (drop lock_offset own)) 0 slot_length ≡ with_no_lock own
lock_put own zeros e z =
    let front : length (take lock_offset own) ≡ lock_offset = length-take-le lock_offset own (omega arith) in
    let behind : length (drop lock_offset own) ≡ length own - lock_offset = length-drop lock_offset own in
    let whole : length (with_no_lock own) ≡ slot_length = simp length-append (omega arith) in
    ap (λ (l : List ℕ). part_of l 0 slot_length)
    (copied_each_law ((0, take lock_offset own) ∷ (lock_offset, u16_bytes 0) ∷ (lock_offset + 2, drop lock_offset own) ∷ []) zeros 0 (refl, (omega arith, (omega arith, tt))) (omega arith)
    ∙ copied_all zeros (with_no_lock own) (whole ∙ sym z))
    ∙ take_all slot_length (with_no_lock own) (omega arith)
