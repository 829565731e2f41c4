-- Laws that the checker has shown: the extents that are left without a partition cover the bytes outside of it, and still rise.
use Prim.Native.Nat.{ℕ, ◌+◌, ◌≤◌, ◌<◌, max, min}
use Rattle.std.proofs.Math.Dec.{ltb}
use Rattle.std.proofs.Math.ListN.{length}
use Rattle.std.specs.Prelude.{Bool, ◌⊎◌, ◌≡◌}
use Rattle.std.proofs.Math.Bool.{true, false}
use mathlib.Core.List.{List, [], ◌∷◌, ◌++◌, append_assoc, append-nil}
use Rattle.std.proofs.Math.Logic.{inl, inr, ⊎_elim}
use Rattle.std.proofs.Math.Path.{refl, subst}
use Rattle.std.proofs.Common.{sym}
use native.Mathlib.Omega.{arith}
use borrow.Author.Tests.{ltb-true, ltb-false, lt-ltb, le-ltb}
use Rattle.common.specs.Choice.{when◌then◌else◌}
use Rattle.table.specs.Extents.{extent, extent_between, lower_part, upper_part, without_partition, each_without}
use Rattle.table.specs.FreeExtentsListed.{RisesFrom}
use Rattle.table.specs.PartitionByteLaws.{OutsidePartition}
use Rattle.table.specs.Table.{partition_end}
use Rattle.table.specs.declared.extents.Extent.{Extent}
use Rattle.table.specs.declared.table.Partition.{Partition}

-- byte i is in an extent
abbrev pub InExtent : ℕ → Extent → Type 0
InExtent i e = (e.start ≤ i) × (i < e.end)

-- byte i is in an extent of the list
abbrev pub Covered : ℕ → List Extent → Type 0
Covered i [] = ⊥
Covered i (e ∷ rest) = InExtent i e ⊎ Covered i rest

-- ---- lists, one behind the other

covered_parts : (i : ℕ) (l m : List Extent) → Covered i (l ++ m) → Covered i l ⊎ Covered i m
covered_parts i [] m h = inr h
covered_parts i (e ∷ l) m (inl h) = inl (inl h)
covered_parts i (e ∷ l) m (inr h) = ⊎_elim (λ u. inl (inr u)) (λ u. inr u) (covered_parts i l m h)

covered_front : (i : ℕ) (l m : List Extent) → Covered i l → Covered i (l ++ m)
covered_front i [] m h = absurd h
covered_front i (e ∷ l) m (inl h) = inl h
covered_front i (e ∷ l) m (inr h) = inr (covered_front i l m h)

covered_back : (i : ℕ) (l m : List Extent) → Covered i m → Covered i (l ++ m)
covered_back i [] m h = h
covered_back i (e ∷ l) m h = inr (covered_back i l m h)

rises_lower : (k n : ℕ) (l : List Extent) → k ≤ n → RisesFrom n l → RisesFrom k l
rises_lower k n [] q h = tt
rises_lower k n (e ∷ rest) q h = (omega (arith, h.0), h.1, h.2)

pub rises_above : (n : ℕ) (l : List Extent) → RisesFrom n l → (i : ℕ) → Covered i l → n ≤ i
rises_above n [] h i c = absurd c
rises_above n (e ∷ rest) h i (inl c) = omega (arith, h.0, c.0)
rises_above n (e ∷ rest) h i (inr c) = omega (arith, h.0, h.1, rises_above (e.end + 1) rest h.2 i c)

-- ---- one extent as a list

module _ (start end : ℕ) where
  pub extent_covered : (i : ℕ) → Covered i (extent_between start end) → (start ≤ i) × (i < end)
  unfolding extent_between when◌then◌else◌
  extent_covered i h = go (ltb start end) h
    where
      go : (b : Bool) → Covered i (when b then extent start end ∷ [] else []) → (start ≤ i) × (i < end)
      go true (inl u) = u
      go true (inr u) = absurd u
      go false u = absurd u

  pub extent_covers : (i : ℕ) → start ≤ i → i < end → Covered i (extent_between start end)
  unfolding extent_between when◌then◌else◌
  extent_covers i p q = rw (lt-ltb start end (omega arith)) (inl (p, q))

  pub extent_none : end ≤ start → extent_between start end ≡ []
  unfolding extent_between when◌then◌else◌
  extent_none h = rw (le-ltb start end h) refl

  pub extent_few : length (extent_between start end) ≤ 1
  unfolding extent_between when◌then◌else◌
  extent_few = go (ltb start end)
    where
      go : (b : Bool) → length (when b then extent start end ∷ [] else []) ≤ 1
      go true = omega arith
      go false = omega arith

  extent_rises : (n : ℕ) (rest : List Extent) → n ≤ start → (start < end → RisesFrom (end + 1) rest) → (end ≤ start → RisesFrom n rest) → RisesFrom n (extent_between start end ++ rest)
  unfolding extent_between when◌then◌else◌
  extent_rises n rest p some none = go (ltb start end) refl
    where
      go : (b : Bool) → ltb start end ≡ b → RisesFrom n ((when b then extent start end ∷ [] else []) ++ rest)
      go true e = let q : start < end = ltb-true start end e in (p, q, some q)
      go false e = none (ltb-false start end e)

  -- alone it rises from its start on
  pub extent_rises_alone : RisesFrom start (extent_between start end)
  extent_rises_alone =
      subst (RisesFrom start) (append-nil (extent_between start end)) (extent_rises start [] (omega arith) (λ q. tt) (λ q. tt))

-- ---- extents without a partition

module _ (p : Partition) where
  without_covered : (i : ℕ) (e : Extent) → Covered i (without_partition p e) → InExtent i e × OutsidePartition p i
  unfolding without_partition
  without_covered i e h =
      ⊎_elim
      (λ u. let q = extent_covered e.start (min e.end p.base.0) i u in ((q.0, omega (arith, q.1)), inl (omega (arith, q.1))))
      (λ u. let q = extent_covered (max e.start (partition_end p)) e.end i u in ((omega (arith, q.0), q.1), inr (omega (arith, q.0))))
      (covered_parts i (lower_part p e) (upper_part p e) h)

  without_covers : (i : ℕ) (e : Extent) → InExtent i e → OutsidePartition p i → Covered i (without_partition p e)
  unfolding without_partition
  without_covers i e h (inl u) = covered_front i (lower_part p e) (upper_part p e) (extent_covers e.start (min e.end p.base.0) i h.0 (omega (arith, u, h.1)))
  without_covers i e h (inr u) = covered_back i (lower_part p e) (upper_part p e) (extent_covers (max e.start (partition_end p)) e.end i (omega (arith, u, h.0)) h.1)

  pub each_covered : (i : ℕ) (l : List Extent) → Covered i (each_without p l) → Covered i l × OutsidePartition p i
  unfolding each_without
  each_covered i [] h = absurd h
  each_covered i (e ∷ rest) h =
      ⊎_elim
      (λ u. let q = without_covered i e u in (inl q.0, q.1))
      (λ u. let q = each_covered i rest u in (inr q.0, q.1))
      (covered_parts i (without_partition p e) (each_without p rest) h)

  pub each_covers : (i : ℕ) (l : List Extent) → Covered i l → OutsidePartition p i → Covered i (each_without p l)
  unfolding each_without
  each_covers i [] h o = absurd h
  each_covers i (e ∷ rest) (inl h) o = covered_front i (without_partition p e) _ (without_covers i e h o)
  each_covers i (e ∷ rest) (inr h) o = covered_back i (without_partition p e) _ (each_covers i rest h o)

  -- a partition that has a byte leaves a gap where it was
  module _ (some : p.base.0 < partition_end p) where
    without_rises : (n : ℕ) (e : Extent) (rest : List Extent) → n ≤ e.start → e.start < e.end → RisesFrom (e.end + 1) rest → RisesFrom n (without_partition p e ++ rest)
    unfolding without_partition
    without_rises n e rest q r h =
        subst (RisesFrom n) (sym (append_assoc (lower_part p e) (upper_part p e) rest))
        (extent_rises e.start (min e.end p.base.0) n (upper_part p e ++ rest) q
        (λ u. above (min e.end p.base.0 + 1) (omega arith) (omega arith))
        (λ u. above n (omega arith) (omega arith)))
      where
        above : (k : ℕ) → k ≤ max e.start (partition_end p) → k ≤ e.end + 1 → RisesFrom k (upper_part p e ++ rest)
        above k u v = extent_rises (max e.start (partition_end p)) e.end k rest u (λ w. h) (λ w. rises_lower k (e.end + 1) rest v h)

    pub each_rises : (n : ℕ) (l : List Extent) → RisesFrom n l → RisesFrom n (each_without p l)
    unfolding each_without
    each_rises n [] h = tt
    each_rises n (e ∷ rest) h = without_rises n e (each_without p rest) h.0 h.1 (each_rises (e.end + 1) rest h.2)
