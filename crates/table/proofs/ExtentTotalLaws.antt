-- Laws that the checker has shown: the total and the widest of extents. A partition taken out of extents that cover it takes away as many
-- bytes as it has.
use Rattle.std.specs.Prelude.{ℕ, ◌+◌, ◌-◌, ◌≤◌, ◌<◌, max, min, ltb, Bool, true, false, ◌⊎◌, ◌≡◌}
use mathlib.Core.List.{List, [], ◌∷◌, ◌++◌}
use Rattle.std.proofs.Common.{inl, inr, ⊎_elim, ap, ltb-false}
use Rattle.std.proofs.Math.Path.{refl}
use Rattle.std.proofs.Math.Decide.{dec_le}
use native.Mathlib.Omega.{arith}
use Rattle.common.specs.Choice.{when◌then◌else◌}
use Rattle.table.specs.ExtentLaws.{InExtent, Covered, rises_above}
use Rattle.table.specs.Extents.{extent, extent_size, extent_between, lower_part, upper_part, without_partition, each_without, extents_total, widest_of}
use Rattle.table.specs.FreeExtentsListed.{◌IsOneOf◌, RisesFrom}
use Rattle.table.specs.Table.{partition_end}
use Rattle.table.specs.declared.extents.Extent.{Extent}
use Rattle.table.specs.declared.table.Partition.{Partition}

-- ---- the total

total_parts : (l m : List Extent) → extents_total (l ++ m) ≡ extents_total l + extents_total m
total_parts [] m = omega arith
total_parts (e ∷ l) m = omega (arith, total_parts l m)

pub extent_total : (start end : ℕ) → extents_total (extent_between start end) ≡ end - start
unfolding extent_between when◌then◌else◌
extent_total start end = go (ltb start end) refl
  where
    go : (b : Bool) → ltb start end ≡ b → extents_total (when b then extent start end ∷ [] else []) ≡ end - start
    go true e = omega arith
    go false e = omega (arith, ltb-false start end e)

module _ (p : Partition) (some : p.base.0 < partition_end p) where
  without_total : (e : Extent) → extents_total (without_partition p e) ≡ (min e.end p.base.0 - e.start) + (e.end - max e.start (partition_end p))
  unfolding without_partition
  without_total e =
      omega (
        arith,
        total_parts (lower_part p e) (upper_part p e),
        extent_total e.start (min e.end p.base.0),
        extent_total (max e.start (partition_end p)) e.end,
      )

  -- extents above the partition lose nothing
  above_total : (n : ℕ) (l : List Extent) → RisesFrom n l → partition_end p ≤ n → extents_total (each_without p l) ≡ extents_total l
  unfolding each_without
  above_total n [] h q = refl
  above_total n (e ∷ rest) h q =
      omega (
        arith,
        total_parts (without_partition p e) (each_without p rest),
        without_total e,
        h.0,
        h.1,
        above_total (e.end + 1) rest h.2 (omega (arith, h.0, h.1)),
      )

  pub each_total : (n : ℕ) (l : List Extent) → RisesFrom n l → ((i : ℕ) → p.base.0 ≤ i → i < partition_end p → Covered i l)
      → extents_total (each_without p l) + (partition_end p - p.base.0) ≡ extents_total l
  unfolding each_without
  each_total n [] h cover = absurd (cover p.base.0 (omega arith) some)
  each_total n (e ∷ rest) h cover = go (cover p.base.0 (omega arith) some) (each_total (e.end + 1) rest h.2)
    where
      parts : extents_total (without_partition p e ++ each_without p rest) ≡ extents_total (without_partition p e) + extents_total (each_without p rest)
      parts = total_parts (without_partition p e) (each_without p rest)

      -- it ends where the extent that has its first byte ends, or below
      ends : InExtent p.base.0 e → Dec (partition_end p ≤ e.end) → partition_end p ≤ e.end
      ends c (yes q) = q
      ends c (no q) = absurd (⊎_elim (λ u. omega (arith, u.1)) (λ u. omega (arith, rises_above (e.end + 1) rest h.2 e.end u)) (cover e.end (omega (arith, c.1)) (omega arith)))

      go : InExtent p.base.0 e ⊎ Covered p.base.0 rest
          → (((i : ℕ) → p.base.0 ≤ i → i < partition_end p → Covered i rest) → extents_total (each_without p rest) + (partition_end p - p.base.0) ≡ extents_total rest)
          → extents_total (without_partition p e ++ each_without p rest) + (partition_end p - p.base.0) ≡ extents_total (e ∷ rest)
      go (inl c) further =
          let end : partition_end p ≤ e.end = ends c (dec_le (partition_end p) e.end) in
          omega (arith, parts, without_total e, c.0, c.1, above_total (e.end + 1) rest h.2 (omega arith))
      go (inr c) further =
          let above : e.end + 1 ≤ p.base.0 = rises_above (e.end + 1) rest h.2 p.base.0 c in
          omega (arith, parts, without_total e, h.1, further (λ i q r. ⊎_elim (λ u. absurd (omega (arith, u.1))) (λ u. u) (cover i q r)))

-- ---- the widest of a list

pub widest_most : (l : List Extent) (f : Extent) → f IsOneOf l → extent_size f ≤ widest_of l
unfolding widest_of
widest_most [] f m = absurd m
widest_most (e ∷ rest) f (inl m) = let s : extent_size f ≡ extent_size e = ap extent_size m in omega arith
widest_most (e ∷ rest) f (inr m) = omega (arith, widest_most rest f m)

-- where every extent is shorter, so is the widest
pub widest_less : (size : ℕ) → 1 ≤ size → (l : List Extent) → ((f : Extent) → f IsOneOf l → extent_size f < size) → widest_of l < size
unfolding widest_of
widest_less size some [] h = omega arith
widest_less size some (e ∷ rest) h = omega (arith, h e (inl refl), widest_less size some rest (λ f m. h f (inr m)))
