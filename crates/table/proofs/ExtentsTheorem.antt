-- Laws that the checker has shown: `free_extents_listed`, the proof that `free_extents` lists the free extents of a table whose slots are sound.
use Prim.Native.Nat.{ℕ, zero, suc, ◌+◌, ◌-◌, ◌≤◌, ◌<◌, max}
use Rattle.std.specs.Prelude.{Bool, List, [], ◌∷◌, ◌⊎◌, ◌≡◌}
use Rattle.std.proofs.Math.Bool.{true, false}
use Rattle.std.proofs.Common.{inl, inr, ◌∙◌, add-one}
use Rattle.std.proofs.Math.Logic.{⊎_elim}
use Rattle.std.proofs.Math.Path.{refl, ap}
use Rattle.std.proofs.Math.Decide.{ℕ_discrete, dec_le, dec_lt}
use native.Mathlib.Omega.{arith}
use Rattle.std.proofs.lemmas.Bool.{not-false, not-true}
use Rattle.common.specs.Choice.{when◌then◌else◌}
use Rattle.common.specs.Layout.{layout_size}
use Rattle.common.specs.Totals.{total_below}
use Rattle.table.specs.ExtentLaws.{Covered, rises_above, extent_covered, extent_covers, extent_rises_alone, each_covered, each_covers, each_rises}
use Rattle.table.proofs.ExtentTotalLaws.{extent_total, each_total}
use Rattle.table.specs.Extents.{each_without, without_slots_below, free_extents, extents_total}
use Rattle.table.specs.FreeExtentsListed.{IsFree, IsFreeExtent, IsWholeRun, ◌IsOneOf◌, RisesFrom, FreeExtentsListed}
use Rattle.table.specs.PartitionByteLaws.{OutsidePartition, outside_partition, in_partition, outside_in_none, empty_in_none}
use Rattle.common.specs.TestLaws.{none_or_some}
use Rattle.table.specs.SoundLaws.{SlotsSound, Loaded, Unloaded, slot_fact, unloaded_slot, loaded_slot_law, loaded_live, apart_cases}
use Rattle.table.specs.Table.{InNoPartition, is_empty, is_in_partition, is_loaded, partition_end, slot_at}
use Rattle.table.specs.declared.extents.Extent.{Extent}
use Rattle.table.specs.declared.table.Partition.{Partition}
use Rattle.table.specs.declared.table.Table.{Table}

-- ---- extents that rise are the whole runs of what they cover

-- an extent of the list
module _ (e : Extent) where
  one_starts : (n : ℕ) (l : List Extent) → RisesFrom n l → e IsOneOf l → (n ≤ e.start) × (e.start < e.end)
  one_starts n [] h m = absurd m
  one_starts n (f ∷ rest) h (inl m) = rw m (h.0, h.1)
  one_starts n (f ∷ rest) h (inr m) = let (from, some) = one_starts (f.end + 1) rest h.2 m in (omega (arith, h.0, h.1), some)

  one_covers : (l : List Extent) → e IsOneOf l → (i : ℕ) → e.start ≤ i → i < e.end → Covered i l
  one_covers [] m i p q = absurd m
  one_covers (f ∷ rest) (inl m) i p q = inl (rw (← m) (p, q))
  one_covers (f ∷ rest) (inr m) i p q = inr (one_covers rest m i p q)

  -- the byte before it, and the byte behind it, is covered by no other
  one_low : (n : ℕ) (l : List Extent) → RisesFrom n l → e IsOneOf l → (i : ℕ) → i + 1 ≡ e.start → ¬ (Covered i l)
  one_low n [] h m i q c = c
  one_low n (f ∷ rest) h (inl m) i q (inl c) = let s : e.start ≡ f.start = ap (λ (g : Extent). g.start) m in absurd (omega (arith, c.0))
  one_low n (f ∷ rest) h (inl m) i q (inr c) =
      let s : e.start ≡ f.start = ap (λ (g : Extent). g.start) m in
      absurd (omega (arith, h.1, rises_above (f.end + 1) rest h.2 i c))
  one_low n (f ∷ rest) h (inr m) i q (inl c) = absurd (omega (arith, c.1, (one_starts (f.end + 1) rest h.2 m).0))
  one_low n (f ∷ rest) h (inr m) i q (inr c) = one_low (f.end + 1) rest h.2 m i q c

  one_high : (n : ℕ) (l : List Extent) → RisesFrom n l → e IsOneOf l → ¬ (Covered e.end l)
  one_high n [] h m c = c
  one_high n (f ∷ rest) h (inl m) (inl c) = let s : e.end ≡ f.end = ap (λ (g : Extent). g.end) m in absurd (omega (arith, c.1))
  one_high n (f ∷ rest) h (inl m) (inr c) =
      let s : e.end ≡ f.end = ap (λ (g : Extent). g.end) m in
      absurd (omega (arith, rises_above (f.end + 1) rest h.2 e.end c))
  one_high n (f ∷ rest) h (inr m) (inl c) = let (from, some) = one_starts (f.end + 1) rest h.2 m in absurd (omega (arith, c.1))
  one_high n (f ∷ rest) h (inr m) (inr c) = one_high (f.end + 1) rest h.2 m c

  one_whole : (n : ℕ) (l : List Extent) → RisesFrom n l → e IsOneOf l → IsWholeRun (λ i. Covered i l) e
  one_whole n l h m = record { some = (one_starts n l h m).1; all = one_covers l m; low = one_low n l h m; high = one_high n l h m }

  -- and every whole run is one of the list: it begins with the extent that has its first byte, and ends with it
  module _ (f : Extent) (rest : List Extent) (h : RisesFrom (f.end + 1) rest) (run : IsWholeRun (λ i. Covered i (f ∷ rest)) e) where
    run_here : (f.start ≤ e.start) × (e.start < f.end) → e ≡ f
    run_here c = λ j. record { start = starts (dec_lt f.start e.start) j; end = ends (dec_lt e.end f.end) (dec_lt f.end e.end) j }
      where
        starts : Dec (f.start < e.start) → e.start ≡ f.start
        starts (yes q) = absurd (run.low (e.start - 1) (omega arith) (inl (omega arith, omega (arith, c.1))))
        starts (no q) = omega (arith, c.0)

        ends : Dec (e.end < f.end) → Dec (f.end < e.end) → e.end ≡ f.end
        ends (yes q) r = absurd (run.high (inl (omega (arith, c.0, run.some), q)))
        ends (no q) (yes r) = absurd (⊎_elim (λ u. omega (arith, u.1)) (λ u. omega (arith, rises_above (f.end + 1) rest h f.end u)) (run.all f.end (omega (arith, c.1)) r))
        ends (no q) (no r) = omega arith

    run_further : Covered e.start rest → IsWholeRun (λ i. Covered i rest) e
    run_further c =
        let above : f.end + 1 ≤ e.start = rises_above (f.end + 1) rest h e.start c in
        record {
          some = run.some;
          all = λ i p q. ⊎_elim (λ u. absurd (omega (arith, u.1))) (λ u. u) (run.all i p q);
          low = λ i q u. run.low i q (inr u);
          high = λ u. run.high (inr u);
        }

  run_listed : (n : ℕ) (l : List Extent) → RisesFrom n l → IsWholeRun (λ i. Covered i l) e → e IsOneOf l
  run_listed n [] h run = run.all e.start (omega arith) run.some
  run_listed n (f ∷ rest) h run =
      ⊎_elim
      (λ c. inl (run_here f rest h.2 run c))
      (λ c. inr (run_listed (f.end + 1) rest h.2 (run_further f rest h.2 run c)))
      (run.all e.start (omega arith) run.some)

-- kinds that have the same bytes have the same whole runs
whole_alike : (A B : ℕ → Type 0) (e : Extent) → ((i : ℕ) → A i → B i) → ((i : ℕ) → B i → A i) → IsWholeRun A e → IsWholeRun B e
whole_alike A B e f g run = record { some = run.some; all = λ i p q. f i (run.all i p q); low = λ i q b. run.low i q (g i b); high = λ b. run.high (g e.end b) }

-- ---- what is left of the memory without the partitions of the slots below n

module _ (t : Table) where
  -- byte i is in the memory, and in the partition of no slot below n
  abbrev FreeBelow : ℕ → ℕ → Type 0
  FreeBelow n i = (i < t.size) × ((k : ℕ) → k < n → is_in_partition (slot_at t k) i ≡ false)

  one_more : (n i : ℕ) → FreeBelow n i → is_in_partition (slot_at t n) i ≡ false → FreeBelow (suc n) i
  one_more n i h e = (h.0, λ k q. go k q (ℕ_discrete k n))
    where
      go : (k : ℕ) → k < suc n → Dec (k ≡ n) → is_in_partition (slot_at t k) i ≡ false
      go k q (yes r) = ap (λ (j : ℕ). is_in_partition (slot_at t j) i) r ∙ e
      go k q (no r) = h.1 k (omega arith)

  below_covers : (n i : ℕ) → FreeBelow n i → Covered i (without_slots_below t n)
  unfolding without_slots_below when◌then◌else◌
  below_covers zero i h = extent_covers 0 t.size i (omega arith) h.0
  below_covers (suc n) i h = go (is_loaded t n) refl (below_covers n i (h.0, λ k q. h.1 k (omega arith)))
    where
      go : (b : Bool) → is_loaded t n ≡ b → Covered i (without_slots_below t n) → Covered i (when b then each_without (slot_at t n).partition (without_slots_below t n) else without_slots_below t n)
      go true e c = each_covers (slot_at t n).partition i (without_slots_below t n) c (outside_partition (slot_at t n) i (h.1 n (omega arith)) (not-true (is_empty (slot_at t n)) e))
      go false e c = c

  below_covered : (n i : ℕ) → Covered i (without_slots_below t n) → FreeBelow n i
  unfolding without_slots_below when◌then◌else◌
  below_covered zero i c = ((extent_covered 0 t.size i c).1, λ k q. absurd (omega arith))
  below_covered (suc n) i c = go (is_loaded t n) refl c (below_covered n i)
    where
      go : (b : Bool) → is_loaded t n ≡ b → Covered i (when b then each_without (slot_at t n).partition (without_slots_below t n) else without_slots_below t n)
          → (Covered i (without_slots_below t n) → FreeBelow n i) → FreeBelow (suc n) i
      go true e c further = let (before, outside) = each_covered (slot_at t n).partition i (without_slots_below t n) c in one_more n i (further before) (outside_in_none (slot_at t n) i outside)
      go false e c further = one_more n i (further c) (empty_in_none (slot_at t n) i (not-false (is_empty (slot_at t n)) e))

  module _ (sound : SlotsSound t) where
    -- a partition of a sound table has bytes
    partition_bytes_law : (k : ℕ) → k < 8 → is_loaded t k ≡ true → (slot_at t k).partition.base.0 < partition_end (slot_at t k).partition
    partition_bytes_law k q e = omega (arith, (loaded_slot_law t.size (slot_at t k) (sound.each k q) (not-true (is_empty (slot_at t k)) e)).partition.layout.window.some)

    pub below_rises : (n : ℕ) → n ≤ 8 → RisesFrom 0 (without_slots_below t n)
    unfolding without_slots_below when◌then◌else◌
    below_rises zero q = extent_rises_alone 0 t.size
    below_rises (suc n) q = go (is_loaded t n) refl (below_rises n (omega arith))
      where
        go : (b : Bool) → is_loaded t n ≡ b → RisesFrom 0 (without_slots_below t n) → RisesFrom 0 (when b then each_without (slot_at t n).partition (without_slots_below t n) else without_slots_below t n)
        go true e h = each_rises (slot_at t n).partition (partition_bytes_law n (omega arith) e) 0 (without_slots_below t n) h
        go false e h = h

    -- the partitions of the slots below n leave the bytes of slot n's
    partition_covered : (n : ℕ) → n < 8 → is_loaded t n ≡ true → (i : ℕ) → (slot_at t n).partition.base.0 ≤ i → i < partition_end (slot_at t n).partition → Covered i (without_slots_below t n)
    partition_covered n q e i low high = below_covers n i (omega (arith, inside), λ k r. outside_in_none (slot_at t k) i (outside k r))
      where
        inside : partition_end (slot_at t n).partition ≤ t.size
        inside = (loaded_slot_law t.size (slot_at t n) (sound.each n q) (not-true (is_empty (slot_at t n)) e)).partition.inside

        outside : (k : ℕ) → k < n → OutsidePartition (slot_at t k).partition i
        outside k r =
            ⊎_elim (λ u. inr (omega arith)) (λ u. inl (omega arith))
            (apart_cases (slot_at t k).partition (slot_at t n).partition (sound.disjoint k n (omega arith) q (λ s. omega arith)))

    below_total : (n : ℕ) → n ≤ 8 → extents_total (without_slots_below t n) + total_below n (λ k. layout_size (slot_at t k).partition.layout) ≡ t.size
    unfolding without_slots_below total_below when◌then◌else◌
    below_total zero q = omega (arith, extent_total 0 t.size)
    below_total (suc n) q = go (is_loaded t n) refl (below_total n (omega arith))
      where
        go : (b : Bool) → is_loaded t n ≡ b → extents_total (without_slots_below t n) + total_below n (λ k. layout_size (slot_at t k).partition.layout) ≡ t.size
            → extents_total (when b then each_without (slot_at t n).partition (without_slots_below t n) else without_slots_below t n)
            + (total_below n (λ k. layout_size (slot_at t k).partition.layout) + layout_size (slot_at t n).partition.layout) ≡ t.size
        go true e further =
            omega (arith, each_total (slot_at t n).partition (partition_bytes_law n (omega arith) e) 0 (without_slots_below t n) (below_rises n (omega arith)) (partition_covered n (omega arith) e))
        go false e further = omega (arith, (unloaded_slot t.size (slot_at t n) (sound.each n (omega arith)) (not-false (is_empty (slot_at t n)) e)).bytes)

    -- what slot n's partition takes away
    pub free_without_slot : (n : ℕ) → n < 8 → extents_total (without_slots_below t (n + 1)) + layout_size (slot_at t n).partition.layout ≡ extents_total (without_slots_below t n)
    unfolding total_below
    free_without_slot n q =
        omega (
          arith,
          below_total n (omega arith),
          below_total (suc n) (omega arith),
          ap (λ (m : ℕ). extents_total (without_slots_below t m)) (add-one n),
        )

    -- What the list is. Only the slots count here: the two numbers are worked out from the list.
    pub free_extents_listed : FreeExtentsListed t
    unfolding InNoPartition
    free_extents_listed =
        let rising : RisesFrom 0 (free_extents t) = below_rises 8 (omega arith) in
        record {
          each = λ e m. whole_alike (λ i. Covered i (free_extents t)) (IsFree t) e (below_covered 8) (below_covers 8) (one_whole e 0 (free_extents t) rising m);
          all = λ e run. run_listed e 0 (free_extents t) rising (whole_alike (IsFree t) (λ i. Covered i (free_extents t)) e (below_covers 8) (below_covered 8) run);
          rising = rising;
          total = below_total 8 (omega arith);
        }

-- before the first partition is taken away, all of the memory is free
pub free_at_first : (t : Table) → t.size ≡ extents_total (without_slots_below t 0)
unfolding without_slots_below
free_at_first t = omega (arith, extent_total 0 t.size)

-- a free byte is in an extent of the list
pub free_covered : (t : Table) (i : ℕ) → IsFree t i → Covered i (free_extents t)
unfolding InNoPartition
free_covered t i h = below_covers t 8 i h

-- ---- a free extent and the partitions

module _ (t : Table) (e : Extent) (free : IsFreeExtent t e) where
  -- no partition of sound slots meets it
  pub extent_apart : SlotsSound t → (k : ℕ) → k < 8 → (partition_end (slot_at t k).partition ≤ e.start) ⊎ (e.end ≤ (slot_at t k).partition.base.0)
  unfolding InNoPartition
  extent_apart sound k q = go (slot_fact t.size (slot_at t k) (sound.each k q))
    where
      p : Partition
      p = (slot_at t k).partition

      meets : Loaded t.size (slot_at t k) → p.base.0 < e.end → e.start < partition_end p → ⊥
      meets loaded low high =
          let i : ℕ = max p.base.0 e.start in
          let bytes : p.base.0 < partition_end p = omega (arith, loaded.partition.layout.window.some) in
          ⊎_elim (λ u. omega arith) (λ u. omega arith)
          (outside_partition (slot_at t k) i ((free.all i (omega arith) (omega (arith, free.some))).1 k q) (loaded_live t.size (slot_at t k) loaded))

      go : Unloaded (slot_at t k) ⊎ Loaded t.size (slot_at t k) → (partition_end (slot_at t k).partition ≤ e.start) ⊎ (e.end ≤ (slot_at t k).partition.base.0)
      go (inl u) = inl (omega (arith, u.base, u.bytes))
      go (inr u) = by (dec_le (partition_end p) e.start) (dec_le e.end p.base.0)
        where
          by : Dec (partition_end p ≤ e.start) → Dec (e.end ≤ p.base.0) → (partition_end p ≤ e.start) ⊎ (e.end ≤ p.base.0)
          by (yes r) s = inl r
          by (no r) (yes s) = inr s
          by (no r) (no s) = absurd (meets u (omega arith) (omega arith))

  -- it starts at 0, or behind a partition
  pub extent_starts : (e.start ≡ 0) ⊎ ((k : ℕ) × (k < 8) × (partition_end (slot_at t k).partition ≡ e.start))
  unfolding InNoPartition
  extent_starts = go (dec_le 1 e.start)
    where
      behind : (k : ℕ) → k < 8 → is_in_partition (slot_at t k) (e.start - 1) ≡ true → 1 ≤ e.start → partition_end (slot_at t k).partition ≡ e.start
      behind k q h some =
          let (loaded, low, high) = in_partition (slot_at t k) (e.start - 1) h in
          ⊎_elim (λ u. omega arith) (λ u. omega arith)
          (outside_partition (slot_at t k) e.start ((free.all e.start (omega arith) free.some).1 k q) loaded)

      go : Dec (1 ≤ e.start) → (e.start ≡ 0) ⊎ ((k : ℕ) × (k < 8) × (partition_end (slot_at t k).partition ≡ e.start))
      go (no r) = inl (omega arith)
      go (yes r) =
          ⊎_elim
          (λ none. absurd (free.low (e.start - 1) (omega arith) (omega (arith, free.some, (free.all e.start (omega arith) free.some).0), none)))
          (λ found. inr (found.0, found.1, behind found.0 found.1 found.2 r))
          (none_or_some 8 (λ k. is_in_partition (slot_at t k) (e.start - 1)))
