-- Lists of extents: what is left of them without a partition, how many there are, and the best of them.
use Prim.Native.Nat.{ℕ, zero, suc, ◌+◌, ◌≤◌, ◌<◌, max, min}
use Rattle.std.proofs.Common.{fold, take-append-drop}
use lib.ListN.{length, get_or, take, drop, length-append}
use lib.Seq.{take-suc}
use mathlib.Core.Bool.{Bool, true, false}
use mathlib.Core.List.{List, [], ◌∷◌, ◌++◌, append_assoc, append-nil}
use mathlib.Core.Path.{◌≡◌, refl, sym, ap, ◌∙◌}
use native.Mathlib.Decide.{dec_lt}
use native.Mathlib.Numerals.{add-one}
use native.Mathlib.Omega.{arith}
use Rattle.common.specs.Choice.{when◌then◌else◌}
use Rattle.table.specs.ExtentLaws.{extent_few, extent_none}
use Rattle.table.specs.Extents.{lower_part, upper_part, without_partition, each_without, without_slots_below}
use Rattle.table.proofs.ExtentsTheorem.{below_rises}
use Rattle.queries.specs.FitQuery.{fits_better, best_of}
use Rattle.table.specs.FreeExtentsListed.{RisesFrom}
use Rattle.table.specs.SoundLaws.{SlotsSound}
use Rattle.table.specs.Table.{is_loaded, partition_end, slot_at}
use Rattle.table.specs.declared.extents.Extent.{Extent}
use Rattle.table.specs.declared.table.Partition.{Partition}
use Rattle.table.specs.declared.table.Table.{Table}

-- ---- what is left of the extents without a partition

module _ (p : Partition) where
  each_append : (l m : List Extent) → each_without p (l ++ m) ≡ each_without p l ++ each_without p m
  unfolding each_without
  each_append [] m = refl
  each_append (e ∷ l) m = ap (λ (r : List Extent). without_partition p e ++ r) (each_append l m) ∙ sym (append_assoc (without_partition p e) (each_without p l) (each_without p m))

  each_one : (e : Extent) → each_without p (e ∷ []) ≡ without_partition p e
  unfolding each_without
  each_one e = append-nil (without_partition p e)

  -- there is room for what lies below the partition
  pub lower_room : (before : List Extent) (e : Extent) → length (before ++ without_partition p e) ≤ 9 → length (before ++ lower_part p e) ≤ 9
  unfolding without_partition
  lower_room before e h =
      omega (
        arith,
        length-append before (lower_part p e ++ upper_part p e),
        length-append (lower_part p e) (upper_part p e),
        length-append before (lower_part p e),
      )

  -- those before the i-th are done
  module _ (extents : List Extent) (i : ℕ) (q : i < length extents) (d : Extent) where
    pub each_more : each_without p (take (i + 1) extents) ≡ each_without p (take i extents) ++ without_partition p (get_or extents i d)
    each_more =
        ap (λ (n : ℕ). each_without p (take n extents)) (add-one i)
        ∙ ap (each_without p) (take-suc extents i d (omega arith))
        ∙ each_append (take i extents) (get_or extents i d ∷ [])
        ∙ ap (λ (r : List Extent). each_without p (take i extents) ++ r) (each_one (get_or extents i d))

    pub each_room : length (each_without p extents) ≤ 9 → length (each_without p (take i extents) ++ without_partition p (get_or extents i d)) ≤ 9
    each_room h =
        omega (
          arith,
          ap length (sym each_more),
          ap (λ (l : List Extent). length (each_without p l)) (sym (take-append-drop (i + 1) extents)),
          ap length (each_append (take (i + 1) extents) (drop (i + 1) extents)),
          length-append (each_without p (take (i + 1) extents)) (each_without p (drop (i + 1) extents)),
        )

  -- ---- how many there are: a partition splits at most one extent

  -- above its base it splits none
  each_above : (n : ℕ) (l : List Extent) → RisesFrom n l → p.base.0 ≤ n → length (each_without p l) ≤ length l
  unfolding each_without without_partition
  each_above n [] h q = omega arith
  each_above n (e ∷ rest) h q =
      omega (
        arith,
        length-append (lower_part p e ++ upper_part p e) (each_without p rest),
        length-append (lower_part p e) (upper_part p e),
        ap length (extent_none e.start (min e.end p.base.0) (omega (arith, h.0))),
        extent_few (max e.start (partition_end p)) e.end,
        each_above (e.end + 1) rest h.2 (omega (arith, h.0, h.1)),
      )

  each_few : (n : ℕ) (l : List Extent) → RisesFrom n l → length (each_without p l) ≤ length l + 1
  unfolding each_without without_partition
  each_few n [] h = omega arith
  each_few n (e ∷ rest) h = go (dec_lt (partition_end p) e.end) (each_few (e.end + 1) rest h.2)
    where
      parts : length ((lower_part p e ++ upper_part p e) ++ each_without p rest) ≡ length (lower_part p e) + length (upper_part p e) + length (each_without p rest)
      parts = length-append (lower_part p e ++ upper_part p e) (each_without p rest) ∙ ap (λ (n : ℕ). n + length (each_without p rest)) (length-append (lower_part p e) (upper_part p e))

      lower_few : length (lower_part p e) ≤ 1
      lower_few = extent_few e.start (min e.end p.base.0)

      go : Dec (partition_end p < e.end) → length (each_without p rest) ≤ length rest + 1 → length ((lower_part p e ++ upper_part p e) ++ each_without p rest) ≤ length (e ∷ rest) + 1
      go (yes q) further =
          omega (arith, parts, lower_few, extent_few (max e.start (partition_end p)) e.end, each_above (e.end + 1) rest h.2 (omega arith))
      go (no q) further = omega (arith, parts, lower_few, ap length (extent_none (max e.start (partition_end p)) e.end (omega arith)))

-- ---- the next slot's partition

module _ (t : Table) (n : ℕ) (l : List Extent) (e : l ≡ without_slots_below t n) where
  pub below_taken : is_loaded t n ≡ true → each_without (slot_at t n).partition l ≡ without_slots_below t (n + 1)
  unfolding without_slots_below when◌then◌else◌
  below_taken h = rw (add-one n, h) (ap (each_without (slot_at t n).partition) e)

  pub below_skipped : is_loaded t n ≡ false → l ≡ without_slots_below t (n + 1)
  unfolding without_slots_below when◌then◌else◌
  below_skipped h = rw (add-one n, h) e

-- n partitions leave at most n + 1 extents
below_few : (t : Table) → SlotsSound t → (n : ℕ) → n ≤ 8 → length (without_slots_below t n) ≤ n + 1
unfolding without_slots_below when◌then◌else◌
below_few t sound zero q = extent_few 0 t.size
below_few t sound (suc n) q = go (is_loaded t n) (below_few t sound n (omega arith))
  where
    go : (b : Bool) → length (without_slots_below t n) ≤ n + 1 → length (when b then each_without (slot_at t n).partition (without_slots_below t n) else without_slots_below t n) ≤ suc n + 1
    go true further = omega (arith, each_few (slot_at t n).partition 0 (without_slots_below t n) (below_rises t sound n (omega arith)))
    go false further = omega arith

-- and those without the next partition are at most nine
pub below_room : (t : Table) → SlotsSound t → (n : ℕ) (l : List Extent) → n < 8 → l ≡ without_slots_below t n → is_loaded t n ≡ true → length (each_without (slot_at t n).partition l) ≤ 9
below_room t sound n l q e h = omega (arith, ap length (below_taken t n l e h), below_few t sound (n + 1) (omega arith))

-- ---- the best of them

-- the best of a list is found from the front on
pub best_fold : (size : ℕ) (best : Extent) (l : List Extent) → fold (λ b e. when fits_better size e b then e else b) best l ≡ best_of size best l
unfolding best_of
best_fold size best [] = refl
best_fold size best (e ∷ rest) = best_fold size (when fits_better size e best then e else best) rest
