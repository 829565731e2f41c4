-- Laws that the checker has shown: what the partitions of a table whose slots are sound leave of the memory's length is the free total, and
-- the longest of the runs from 0 on, and from behind each partition on, is the widest free extent. A free extent starts at 0 or behind a
-- partition, and each run is of free bytes.
use Prim.Native.Nat.{ℕ, zero, suc, ◌+◌, ◌-◌, ◌≤◌, ◌<◌, max, min}
use Rattle.std.proofs.Math.Dec.{ltb}
use Rattle.std.specs.Prelude.{Bool, List, [], ◌∷◌, ◌⊎◌, ◌≡◌}
use Rattle.std.proofs.Math.Bool.{true, false}
use Rattle.std.proofs.Math.Logic.{inl, inr, ⊎_elim}
use Rattle.std.proofs.Math.Path.{refl, ap, subst}
use Rattle.std.proofs.Common.{◌∙◌, le_antisymm, add-one, ltb-true, ltb-false}
use Rattle.std.proofs.Math.Decide.{dec_le, dec_lt}
use native.Mathlib.Omega.{arith}
use Rattle.common.specs.Choice.{when◌then◌else◌}
use Rattle.table.specs.ExtentLaws.{Covered, rises_above}
use Rattle.table.proofs.ExtentTotalLaws.{widest_less}
use Rattle.table.specs.Extents.{extent_size, extents_total, without_slots_below, free_extents, free_total, widest_of, widest_extent}
use Rattle.table.proofs.ExtentsTheorem.{extent_apart, extent_starts, free_at_first, free_without_slot, free_extents_listed, free_covered}
use Rattle.table.specs.FreeBytes.{counted}
use Rattle.table.specs.FreeExtentsListed.{IsFree, IsFreeExtent, ◌IsOneOf◌, RisesFrom}
use Rattle.table.specs.Gaps.{bytes_left_below, end_before, gap_end_below, gap_from, widest_gap_below, counted_by_partitions}
use Rattle.table.specs.PartitionByteLaws.{OutsidePartition, outside_in_none}
use Rattle.table.specs.SoundLaws.{SlotsSound}
use Rattle.table.specs.Table.{InNoPartition, partition_end, slot_at, with_free_bytes}
use Rattle.table.specs.declared.extents.Extent.{Extent}
use Rattle.table.specs.declared.table.Partition.{Partition}
use Rattle.table.specs.declared.table.Table.{Table}

-- ---- where a run ends

module _ (p : Partition) (from end : ℕ) where
  end_falls : end_before p from end ≤ end
  unfolding end_before when◌then◌else◌
  end_falls = go (ltb from (partition_end p))
    where
      go : (b : Bool) → (when b then min end p.base.0 else end) ≤ end
      go true = omega arith
      go false = omega arith

  -- it ends before the partition, or starts behind it
  end_outside : (partition_end p ≤ from) ⊎ (end_before p from end ≤ p.base.0)
  unfolding end_before when◌then◌else◌
  end_outside = go (ltb from (partition_end p)) refl
    where
      go : (b : Bool) → ltb from (partition_end p) ≡ b → (partition_end p ≤ from) ⊎ ((when b then min end p.base.0 else end) ≤ p.base.0)
      go true e = inr (omega arith)
      go false e = inl (ltb-false from (partition_end p) e)

  -- and not before it must
  end_least : (m : ℕ) → m ≤ end → (from < partition_end p → m ≤ p.base.0) → m ≤ end_before p from end
  unfolding end_before when◌then◌else◌
  end_least m low before = go (ltb from (partition_end p)) refl
    where
      go : (b : Bool) → ltb from (partition_end p) ≡ b → m ≤ (when b then min end p.base.0 else end)
      go true e = omega (arith, before (ltb-true from (partition_end p) e))
      go false e = low

module _ (t : Table) (from : ℕ) where
  gap_inside : (n : ℕ) → gap_end_below t from n ≤ t.size
  unfolding gap_end_below
  gap_inside zero = omega arith
  gap_inside (suc n) = omega (arith, end_falls (slot_at t n).partition from (gap_end_below t from n), gap_inside n)

  gap_outside : (n k : ℕ) → k < n → (partition_end (slot_at t k).partition ≤ from) ⊎ (gap_end_below t from n ≤ (slot_at t k).partition.base.0)
  unfolding gap_end_below
  gap_outside zero k q = absurd (omega arith)
  gap_outside (suc n) k q = go (dec_lt k n) (gap_outside n k)
    where
      go : Dec (k < n) → (k < n → (partition_end (slot_at t k).partition ≤ from) ⊎ (gap_end_below t from n ≤ (slot_at t k).partition.base.0))
          → (partition_end (slot_at t k).partition ≤ from) ⊎ (end_before (slot_at t n).partition from (gap_end_below t from n) ≤ (slot_at t k).partition.base.0)
      go (yes r) below = ⊎_elim (λ u. inl u) (λ u. inr (omega (arith, u, end_falls (slot_at t n).partition from (gap_end_below t from n)))) (below r)
      go (no r) below =
          let e : n ≡ k = omega arith in
          subst (λ (j : ℕ). (partition_end (slot_at t j).partition ≤ from) ⊎ (end_before (slot_at t n).partition from (gap_end_below t from n) ≤ (slot_at t j).partition.base.0)) e
          (end_outside (slot_at t n).partition from (gap_end_below t from n))

  gap_least : (m n : ℕ) → m ≤ t.size → ((k : ℕ) → k < n → from < partition_end (slot_at t k).partition → m ≤ (slot_at t k).partition.base.0) → m ≤ gap_end_below t from n
  unfolding gap_end_below
  gap_least m zero low before = low
  gap_least m (suc n) low before =
      end_least (slot_at t n).partition from (gap_end_below t from n) m (gap_least m n low (λ k q. before k (omega arith))) (before n (omega arith))

  -- every byte of the run is free
  gap_free : (i : ℕ) → from ≤ i → i < gap_end_below t from 8 → IsFree t i
  unfolding InNoPartition
  gap_free i low high = (omega (arith, gap_inside 8), λ k q. outside_in_none (slot_at t k) i (outside k q))
    where
      outside : (k : ℕ) → k < 8 → OutsidePartition (slot_at t k).partition i
      outside k q = ⊎_elim (λ u. inr (omega arith)) (λ u. inl (omega arith)) (gap_outside 8 k q)

-- ---- both numbers are at most the memory's length

module _ (t : Table) where
  pub left_within : (n : ℕ) → bytes_left_below t n ≤ t.size
  unfolding bytes_left_below
  left_within zero = omega arith
  left_within (suc n) = omega (arith, left_within n)

  pub gaps_within : (n : ℕ) → widest_gap_below t n ≤ t.size
  unfolding widest_gap_below
  gaps_within zero = omega (arith, gap_inside t 0 8)
  gaps_within (suc n) = omega (arith, gaps_within n, gap_inside t (partition_end (slot_at t n).partition) 8)

-- ---- a run of free bytes is no longer than the widest free extent

run_within : (start end n : ℕ) (l : List Extent) → RisesFrom n l → ((i : ℕ) → start ≤ i → i < end → Covered i l) → end - start ≤ widest_of l
unfolding widest_of
run_within start end n [] h cover = go (dec_lt start end)
  where
    go : Dec (start < end) → end - start ≤ 0
    go (yes q) = absurd (cover start (omega arith) q)
    go (no q) = omega arith
run_within start end n (e ∷ rest) h cover = go (dec_lt start end) (run_within start end (e.end + 1) rest h.2)
  where
    -- it ends where the extent that has its first byte ends, or below
    ends : e.start ≤ start → start < e.end → Dec (end ≤ e.end) → end ≤ e.end
    ends low high (yes q) = q
    ends low high (no q) = absurd (⊎_elim (λ u. omega (arith, u.1)) (λ u. omega (arith, rises_above (e.end + 1) rest h.2 e.end u)) (cover e.end (omega arith) (omega arith)))

    go : Dec (start < end) → (((i : ℕ) → start ≤ i → i < end → Covered i rest) → end - start ≤ widest_of rest) → end - start ≤ max (extent_size e) (widest_of rest)
    go (no q) further = omega arith
    go (yes q) further =
        ⊎_elim
        (λ u. omega (arith, u.0, ends u.0 u.1 (dec_le end e.end)))
        (λ u.
        let above : e.end + 1 ≤ start = rises_above (e.end + 1) rest h.2 start u in
        omega (arith, further (λ i r s. ⊎_elim (λ v. absurd (omega (arith, v.1))) (λ v. v) (cover i r s))))
        (cover start (omega arith) q)

module _ (t : Table) (sound : SlotsSound t) where
  pub free_run_within : (start end : ℕ) → ((i : ℕ) → start ≤ i → i < end → IsFree t i) → end - start ≤ widest_extent t
  free_run_within start end free = run_within start end 0 (free_extents t) (free_extents_listed t sound).rising (λ i p q. free_covered t i (free i p q))

  -- ---- the runs of the code

  gap_most : (from : ℕ) → gap_from t from ≤ widest_extent t
  gap_most from = free_run_within from (gap_end_below t from 8) (gap_free t from)

  -- the run from the start of a free extent on is as long as it
  gap_whole : (e : Extent) → IsFreeExtent t e → extent_size e ≤ gap_from t e.start
  gap_whole e free =
      omega (
        arith,
        free.some,
        gap_least t e.start e.end 8 (omega (arith, (free.all (e.end - 1) (omega (arith, free.some)) (omega (arith, free.some))).0))
            (λ k q above. ⊎_elim (λ u. absurd (omega arith)) (λ u. u) (extent_apart t e free sound k q)),
      )

  gaps_most : (n : ℕ) → widest_gap_below t n ≤ widest_extent t
  unfolding widest_gap_below
  gaps_most zero = gap_most 0
  gaps_most (suc n) = omega (arith, gaps_most n, gap_most (partition_end (slot_at t n).partition))

  gaps_first : (n : ℕ) → gap_from t 0 ≤ widest_gap_below t n
  unfolding widest_gap_below
  gaps_first zero = omega arith
  gaps_first (suc n) = omega (arith, gaps_first n)

  gaps_each : (n k : ℕ) → k < n → gap_from t (partition_end (slot_at t k).partition) ≤ widest_gap_below t n
  unfolding widest_gap_below
  gaps_each zero k q = absurd (omega arith)
  gaps_each (suc n) k q = go (dec_lt k n) (gaps_each n k)
    where
      go : Dec (k < n) → (k < n → gap_from t (partition_end (slot_at t k).partition) ≤ widest_gap_below t n)
          → gap_from t (partition_end (slot_at t k).partition) ≤ max (widest_gap_below t n) (gap_from t (partition_end (slot_at t n).partition))
      go (yes r) below = omega (arith, below r)
      go (no r) below =
          let e : n ≡ k = omega arith in
          subst (λ (j : ℕ). gap_from t (partition_end (slot_at t j).partition) ≤ max (widest_gap_below t n) (gap_from t (partition_end (slot_at t n).partition))) e (omega arith)

  extent_found : (e : Extent) → e IsOneOf free_extents t → extent_size e ≤ widest_gap_below t 8
  extent_found e m =
      let free : IsFreeExtent t e = (free_extents_listed t sound).each e m in
      ⊎_elim
      (λ u. omega (arith, gap_whole e free, ap (gap_from t) u, gaps_first 8))
      (λ u. omega (arith, gap_whole e free, ap (gap_from t) u.2, gaps_each 8 u.0 u.1))
      (extent_starts t e free)

  pub gaps_widest : widest_gap_below t 8 ≡ widest_extent t
  gaps_widest =
      le_antisymm (gaps_most 8)
      (let less : widest_extent t < widest_gap_below t 8 + 1 = widest_less (widest_gap_below t 8 + 1) (omega arith) (free_extents t) (λ f m. omega (arith, extent_found f m)) in omega arith)

  -- ---- what the partitions leave

  left_total : (n : ℕ) → n ≤ 8 → bytes_left_below t n ≡ extents_total (without_slots_below t n)
  unfolding bytes_left_below
  left_total zero q = free_at_first t
  left_total (suc n) q =
      omega (
        arith,
        left_total n (omega arith),
        free_without_slot t sound n (omega arith),
        ap (λ (m : ℕ). extents_total (without_slots_below t m)) (add-one n),
      )

  pub left_free : bytes_left_below t 8 ≡ free_total t
  left_free = left_total 8 (omega arith)

  -- so the two numbers are those that are meant
  pub counted_by_partitions_law : counted_by_partitions t ≡ counted t
  counted_by_partitions_law = ap (λ (n : ℕ). with_free_bytes t n (widest_gap_below t 8)) left_free ∙ ap (with_free_bytes t (free_total t)) gaps_widest
