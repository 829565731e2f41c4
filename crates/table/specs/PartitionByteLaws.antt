-- Laws that the checker has shown: which bytes are in the partition of a slot.
use Rattle.std.specs.Prelude.{Bool, true, false, not, ◌&&◌, ◌⊎◌, ◌≡◌, refl, ℕ, ◌≤◌, ◌<◌, leb, ltb}
use Rattle.std.proofs.lemmas.Bool.{false≢true, not-true}
use Rattle.std.proofs.Common.{inl, inr, ⊎_elim, sym, ap, ◌∙◌, arith, le-leb, leb-true, lt-ltb, ltb-true}
use Rattle.std.proofs.Math.Decide.{dec_lt, dec_le}
use Rattle.common.specs.TestLaws.{and_fact, and_test}
use Rattle.table.specs.Table.{is_empty, is_in_partition, partition_end}
use Rattle.table.specs.declared.table.Partition.{Partition}
use Rattle.table.specs.declared.table.Slot.{Slot}

-- byte i lies below the partition, or above it
abbrev pub OutsidePartition : Partition → ℕ → Type 0
OutsidePartition p i = (i < p.base.0) ⊎ (partition_end p ≤ i)

pub outside_partition : (s : Slot) (i : ℕ) → is_in_partition s i ≡ false → is_empty s ≡ false → OutsidePartition s.partition i
unfolding is_in_partition
outside_partition s i h m = go (dec_lt i s.partition.base.0) (dec_le (partition_end s.partition) i)
  where
    go : Dec (i < s.partition.base.0) → Dec (partition_end s.partition ≤ i) → OutsidePartition s.partition i
    go (yes p) q = inl p
    go (no p) (yes q) = inr q
    go (no p) (no q) =
        absurd (false≢true (sym h ∙ and_test (not (is_empty s) && leb s.partition.base.0 i) _ (and_test _ _ (ap not m) (le-leb s.partition.base.0 i (omega arith))) (lt-ltb i (partition_end s.partition) (omega arith))))

-- a byte in it lies from its base on and before its end
pub in_partition : (s : Slot) (i : ℕ) → is_in_partition s i ≡ true → (is_empty s ≡ false) × (s.partition.base.0 ≤ i) × (i < partition_end s.partition)
unfolding is_in_partition
in_partition s i h =
    let (front, below) = and_fact (not (is_empty s) && leb s.partition.base.0 i) (ltb i (partition_end s.partition)) h in
    let (loaded, from) = and_fact (not (is_empty s)) (leb s.partition.base.0 i) front in
    (not-true (is_empty s) loaded, leb-true _ _ from, ltb-true _ _ below)

-- a byte outside of it is not in it; an empty slot has none
pub outside_in_none : (s : Slot) (i : ℕ) → OutsidePartition s.partition i → is_in_partition s i ≡ false
unfolding is_in_partition
outside_in_none s i o = go (is_in_partition s i) refl
  where
    go : (b : Bool) → is_in_partition s i ≡ b → b ≡ false
    go true e = let (_, from, to) = in_partition s i e in absurd (⊎_elim (λ u. omega arith) (λ u. omega arith) o)
    go false e = refl

pub empty_in_none : (s : Slot) (i : ℕ) → is_empty s ≡ true → is_in_partition s i ≡ false
unfolding is_in_partition
empty_in_none s i e = rw e refl
