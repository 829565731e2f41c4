-- Laws that the checker has shown: soundness as facts with names, what the tests say and back.
use Rattle.std.specs.Prelude.{Bool, false, ◌&&◌, ◌||◌, not, List, ◌≢◌, ◌⊎◌, ◌≡◌, ℕ, zero, suc, ◌≤◌, ◌<◌, eqb, leb, get_or, length}
use Rattle.std.proofs.Math.Bool.{true}
use Rattle.std.proofs.lemmas.Bool.{false≢true}
use Rattle.std.proofs.Common.{inl, inr, sym, ◌∙◌, arith}
use Rattle.std.proofs.Math.Path.{ap, refl}
use Rattle.std.proofs.Math.Decide.{ℕ_discrete, dec_lt}
use borrow.Author.Tests.{leb-true, le-leb, ltb-true, lt-ltb, eqb-true, eq-eqb, ne_eqb}
use Rattle.std.proofs.Math.ListN.{length-set, get_or-eq_default}
use Rattle.std.proofs.Math.Seq.{get_or-set_same, get_or-set_other}
use Rattle.common.specs.Choice.{when◌then◌else◌}
use Rattle.common.specs.LayoutLaws.{LayoutSound, layout_fact, layout_test}
use Rattle.common.specs.Layout.{layout_size}
use Rattle.common.specs.TestLaws.{and_fact, and_test, or_fact, or_left, or_right, when_fact, when_test, OneTo, one_to_fact, one_to_test, all_fact, all_test, below_fact, below_test}
use Rattle.common.specs.declared.layout.Layout.{Layout}
use Rattle.registers.specs.State.{last_status}
use Rattle.registers.specs.Cpu.{stored_psu}
use Rattle.registers.specs.declared.state.State.{State}
use Rattle.table.specs.Table.{no_slot, slot_at, with_free_bytes, with_slot, is_empty, partition_end}
use Rattle.table.specs.Extents.{each_without, extents_total, without_slots_below, free_extents, free_total, widest_of, widest_extent}
use Rattle.table.specs.FreeBytes.{is_counted, counted}
use Rattle.table.specs.Sound.{partition_sound, all_fifteen_bits, state_sound, is_zero_partition, is_zero_state, slot_sound, are_apart, is_clear_of_others, slots_sound, table_sound}
use Rattle.table.specs.declared.table.Partition.{Partition}
use Rattle.table.specs.declared.table.Slot.{Slot}
use Rattle.table.specs.declared.table.Table.{Table}

-- ---- a partition

pub record PartitionSound (size : ℕ) (p : Partition) : Type 0 where
  pub layout : LayoutSound p.layout
  pub quantum : OneTo p.quantum 255
  pub inside : partition_end p ≤ size

partition_fact : (size : ℕ) (p : Partition) → partition_sound size p ≡ true → PartitionSound size p
unfolding partition_sound
partition_fact size p h =
    let (layout, (quantum, (inside, _))) = all_fact _ h in
    record { layout = layout_fact _ layout; quantum = one_to_fact _ 255 quantum; inside = leb-true _ _ inside }

partition_test : (size : ℕ) (p : Partition) → PartitionSound size p → partition_sound size p ≡ true
unfolding partition_sound
partition_test size p f = all_test _ (layout_test _ f.layout, (one_to_test _ 255 f.quantum, (le-leb _ _ f.inside, tt)))

-- ---- what runs in a partition

pub record StateSound (l : Layout) (s : State) : Type 0 where
  pub status : OneTo s.status last_status
  pub counter : s.cpu.counter < 32768
  pub returns : (i : ℕ) → get_or s.cpu.returns i 0 < 32768
  pub psu : stored_psu s.cpu.psu ≡ s.cpu.psu
  pub read : s.read ≤ s.filled
  pub filled : s.filled ≤ l.input
  pub written : s.written ≤ l.output
  pub wants_input : s.status ≡ 3 → s.read ≡ s.filled
  pub full : s.status ≡ 4 → s.written ≡ l.output

fifteen_bits_fact : (l : List ℕ) → all_fifteen_bits l ≡ true → (i : ℕ) → get_or l i 0 < 32768
unfolding all_fifteen_bits
fifteen_bits_fact l h i = go (dec_lt i (length l))
  where
    go : Dec (i < length l) → get_or l i 0 < 32768
    go (yes q) = ltb-true _ _ (below_fact (length l) _ h i q)
    go (no q) = let e : get_or l i 0 ≡ 0 = get_or-eq_default l 0 {n = i} (omega arith) in omega arith

fifteen_bits_test : (l : List ℕ) → ((i : ℕ) → get_or l i 0 < 32768) → all_fifteen_bits l ≡ true
unfolding all_fifteen_bits
fifteen_bits_test l h = below_test (length l) _ (λ i q. lt-ltb _ _ (h i))

module _ (l : Layout) (s : State) where
  state_fact : state_sound l s ≡ true → StateSound l s
  unfolding state_sound
  state_fact h =
      let (status, (counter, (returns, (psu, (read, (filled, (written, (wants_input, (full, _))))))))) = all_fact _ h in
      record {
        status = one_to_fact _ last_status status;
        counter = ltb-true _ _ counter;
        returns = fifteen_bits_fact s.cpu.returns returns;
        psu = eqb-true _ _ psu;
        read = leb-true _ _ read;
        filled = leb-true _ _ filled;
        written = leb-true _ _ written;
        wants_input = when_fact s.status 3 s.read s.filled wants_input;
        full = when_fact s.status 4 s.written l.output full;
      }

  state_test : StateSound l s → state_sound l s ≡ true
  unfolding state_sound
  state_test f =
      all_test _ (
        one_to_test _ last_status f.status,
        (
          lt-ltb _ _ f.counter,
          (
            fifteen_bits_test s.cpu.returns f.returns,
            (
              eq-eqb _ _ f.psu,
              (
                le-leb _ _ f.read,
                (
                  le-leb _ _ f.filled,
                  (
                    le-leb _ _ f.written,
                    (
                      when_test s.status 3 s.read s.filled f.wants_input,
                      (when_test s.status 4 s.written l.output f.full, tt),
                    ),
                  ),
                ),
              ),
            ),
          ),
        ),
      )

-- ---- a slot

pub record Loaded (size : ℕ) (s : Slot) : Type 0 where
  pub partition : PartitionSound size s.partition
  pub state : StateSound s.partition.layout s.state

-- all that the theorems need of an empty slot
pub record Unloaded (s : Slot) : Type 0 where
  pub base : s.partition.base.0 ≡ 0
  pub bytes : layout_size s.partition.layout ≡ 0
  pub status : s.state.status ≡ 0
  pub written : s.state.written ≡ 0

zero_slot : (s : Slot) → is_zero_partition s.partition ≡ true → is_zero_state s.state ≡ true → Unloaded s
unfolding is_zero_partition is_zero_state
zero_slot s h z =
    let (base, (window, (input, (output, _)))) = all_fact _ h in
    let (status, (_, (_, (written, _)))) = all_fact _ z in
    let w : s.partition.layout.window ≡ 0 = eqb-true _ _ window in
    let i : s.partition.layout.input ≡ 0 = eqb-true _ _ input in
    let o : s.partition.layout.output ≡ 0 = eqb-true _ _ output in
    record { base = eqb-true _ _ base; bytes = omega arith; status = eqb-true _ _ status; written = eqb-true _ _ written }

pub slot_fact : (size : ℕ) (s : Slot) → slot_sound size s ≡ true → Unloaded s ⊎ Loaded size s
unfolding slot_sound
slot_fact size s h = go (or_fact (is_zero_partition s.partition && is_zero_state s.state) _ h)
  where
    go : ((is_zero_partition s.partition && is_zero_state s.state) ≡ true) ⊎ ((partition_sound size s.partition && state_sound s.partition.layout s.state) ≡ true) → Unloaded s ⊎ Loaded size s
    go (inl u) = let b = and_fact (is_zero_partition s.partition) (is_zero_state s.state) u in inl (zero_slot s b.0 b.1)
    go (inr u) =
        let b = and_fact (partition_sound size s.partition) (state_sound s.partition.layout s.state) u in
        inr (record { partition = partition_fact size s.partition b.0; state = state_fact s.partition.layout s.state b.1 })

pub slot_test : (size : ℕ) (s : Slot) → Loaded size s → slot_sound size s ≡ true
unfolding slot_sound
slot_test size s f =
    or_right (is_zero_partition s.partition && is_zero_state s.state) _
    (and_test (partition_sound size s.partition) (state_sound s.partition.layout s.state) (partition_test size s.partition f.partition) (state_test s.partition.layout s.state f.state))

pub unloaded_slot : (size : ℕ) (s : Slot) → slot_sound size s ≡ true → is_empty s ≡ true → Unloaded s
unloaded_slot size s h m = go (slot_fact size s h)
  where
    go : Unloaded s ⊎ Loaded size s → Unloaded s
    go (inl u) = u
    go (inr u) = let l : 1 ≤ s.state.status = u.state.status.some in absurd (omega (arith, eqb-true s.state.status 0 m))

pub loaded_slot_law : (size : ℕ) (s : Slot) → slot_sound size s ≡ true → is_empty s ≡ false → Loaded size s
loaded_slot_law size s h m = go (slot_fact size s h)
  where
    go : Unloaded s ⊎ Loaded size s → Loaded size s
    go (inl u) = absurd (false≢true (sym m ∙ eq-eqb s.state.status 0 u.status))
    go (inr u) = u

pub loaded_live : (size : ℕ) (s : Slot) → Loaded size s → is_empty s ≡ false
loaded_live size s f = let l : 1 ≤ s.state.status = f.state.status.some in ne_eqb s.state.status 0 (λ e. omega arith)

-- ---- disjoint partitions

pub Apart : Partition → Partition → Type 0
Apart p q = (partition_end p ≤ q.base.0) ⊎ (partition_end q ≤ p.base.0)

pub apart_sym : (p q : Partition) → Apart p q → Apart q p
unfolding Apart
apart_sym p q (inl u) = inr u
apart_sym p q (inr u) = inl u

pub apart_cases : (p q : Partition) → Apart p q → (partition_end p ≤ q.base.0) ⊎ (partition_end q ≤ p.base.0)
unfolding Apart
apart_cases p q h = h

pub apart_below : (p q : Partition) → partition_end p ≤ q.base.0 → Apart p q
unfolding Apart
apart_below p q h = inl h

pub apart_behind : (p q : Partition) → partition_end q ≤ p.base.0 → Apart p q
unfolding Apart
apart_behind p q h = inr h

apart_fact : (p q : Partition) → are_apart p q ≡ true → Apart p q
unfolding are_apart Apart
apart_fact p q h = go (or_fact (leb (partition_end p) q.base.0) (leb (partition_end q) p.base.0) h)
  where
    go : (leb (partition_end p) q.base.0 ≡ true) ⊎ (leb (partition_end q) p.base.0 ≡ true) → (partition_end p ≤ q.base.0) ⊎ (partition_end q ≤ p.base.0)
    go (inl u) = inl (leb-true _ _ u)
    go (inr u) = inr (leb-true _ _ u)

apart_test : (p q : Partition) → Apart p q → are_apart p q ≡ true
unfolding are_apart Apart
apart_test p q (inl u) = or_left (leb (partition_end p) q.base.0) (leb (partition_end q) p.base.0) (le-leb _ _ u)
apart_test p q (inr u) = or_right (leb (partition_end p) q.base.0) (leb (partition_end q) p.base.0) (le-leb _ _ u)

module _ (t : Table) (except : ℕ) (p : Partition) where
  is_clear : ℕ → Bool
  is_clear j = eqb j except || are_apart (slot_at t j).partition p

  pub clear_fact : is_clear_of_others t except p ≡ true → (j : ℕ) → j < 8 → j ≢ except → Apart (slot_at t j).partition p
  unfolding is_clear_of_others is_clear
  clear_fact h j q ne = go (or_fact (eqb j except) (are_apart (slot_at t j).partition p) (below_fact 8 is_clear h j q))
    where
      go : (eqb j except ≡ true) ⊎ (are_apart (slot_at t j).partition p ≡ true) → Apart (slot_at t j).partition p
      go (inl u) = absurd (ne (eqb-true j except u))
      go (inr u) = apart_fact (slot_at t j).partition p u

  pub clear_test : ((j : ℕ) → j < 8 → j ≢ except → Apart (slot_at t j).partition p) → is_clear_of_others t except p ≡ true
  unfolding is_clear_of_others is_clear
  clear_test h = below_test 8 is_clear (λ j q. go j q (ℕ_discrete j except))
    where
      go : (j : ℕ) → j < 8 → Dec (j ≡ except) → is_clear j ≡ true
      go j q (yes e) = or_left (eqb j except) (are_apart (slot_at t j).partition p) (eq-eqb j except e)
      go j q (no e) = or_right (eqb j except) (are_apart (slot_at t j).partition p) (apart_test (slot_at t j).partition p (h j q e))

-- ---- sound slots

pub record SlotsSound (t : Table) : Type 0 where
  pub size : OneTo t.size 65536
  pub eight : length t.slots ≡ 8
  pub each : (k : ℕ) → k < 8 → slot_sound t.size (slot_at t k) ≡ true
  pub disjoint : (j k : ℕ) → j < 8 → k < 8 → j ≢ k → Apart (slot_at t j).partition (slot_at t k).partition

module _ (t : Table) where
  slot_is_sound : ℕ → Bool
  slot_is_sound k = slot_sound t.size (slot_at t k)

  slot_is_clear : ℕ → Bool
  slot_is_clear k = is_clear_of_others t k (slot_at t k).partition

  pub slots_fact : slots_sound t ≡ true → SlotsSound t
  unfolding slots_sound slot_is_sound slot_is_clear
  slots_fact h =
      let (size, (eight, (each, (disjoint, _)))) = all_fact _ h in
      record {
        size = one_to_fact _ 65536 size;
        eight = eqb-true _ _ eight;
        each = below_fact 8 slot_is_sound each;
        disjoint = λ j k p q ne. clear_fact t k (slot_at t k).partition (below_fact 8 slot_is_clear disjoint k q) j p ne;
      }

  pub slots_test : SlotsSound t → slots_sound t ≡ true
  unfolding slots_sound slot_is_sound slot_is_clear
  slots_test f =
      all_test _ (
        one_to_test _ 65536 f.size,
        (
          eq-eqb _ _ f.eight,
          (
            below_test 8 slot_is_sound f.each,
            (below_test 8 slot_is_clear (λ k q. clear_test t k (slot_at t k).partition (λ j p ne. f.disjoint j k p q ne)), tt),
          ),
        ),
      )

-- ---- the free extents depend on the partitions of the loaded slots alone

pub extents_alike : (t u : Table) → t.size ≡ u.size → ((k : ℕ) → is_empty (slot_at t k) ≡ is_empty (slot_at u k)) → ((k : ℕ) → (slot_at t k).partition ≡ (slot_at u k).partition)
    → (n : ℕ) → without_slots_below t n ≡ without_slots_below u n
unfolding without_slots_below
extents_alike t u size empty partition zero = rw size
extents_alike t u size empty partition (suc n) =
    let before : without_slots_below t n ≡ without_slots_below u n = extents_alike t u size empty partition n in
    λ i. when not (empty n i) then each_without (partition n i) (before i) else before i

-- ---- a sound table

pub record TableSound (t : Table) : Type 0 where
  pub slots : SlotsSound t
  pub free : t.free ≡ free_total t
  pub widest : t.widest ≡ widest_extent t

module _ (t : Table) where
  pub table_fact : table_sound t ≡ true → TableSound t
  unfolding table_sound is_counted
  table_fact h =
      let (slots, numbers) = and_fact (slots_sound t) _ h in
      let (free, widest) = and_fact (eqb t.free (free_total t)) _ numbers in
      record { slots = slots_fact t slots; free = eqb-true _ _ free; widest = eqb-true _ _ widest }

  pub table_test : TableSound t → table_sound t ≡ true
  unfolding table_sound is_counted
  table_test f =
      and_test (slots_sound t) _ (slots_test t f.slots) (and_test (eqb t.free (free_total t)) _ (eq-eqb _ _ f.free) (eq-eqb _ _ f.widest))

-- ---- the two numbers say nothing of the slots; counting the free bytes makes sound slots a sound table

pub numbered_slots : (t : Table) (free widest : ℕ) → SlotsSound t → SlotsSound (with_free_bytes t free widest)
unfolding slot_at
numbered_slots t free widest f = record { size = f.size; eight = f.eight; each = f.each; disjoint = f.disjoint }

pub counted_sound : (t : Table) → SlotsSound t → TableSound (counted t)
unfolding slot_at
counted_sound t f =
    let same : free_extents (counted t) ≡ free_extents t = extents_alike (counted t) t refl (λ k. refl) (λ k. refl) 8 in
    record { slots = numbered_slots t _ _ f; free = ap extents_total (sym same); widest = ap widest_of (sym same) }

-- a sound table is counted already
pub counted_same : (t : Table) → TableSound t → counted t ≡ t
counted_same t h = λ i. record { size = t.size; free = sym h.free i; widest = sym h.widest i; slots = t.slots }

-- a counted table is sound exactly if its slots are
pub counted_test : (t : Table) → table_sound (counted t) ≡ slots_sound t
unfolding table_sound slots_sound is_clear_of_others slot_at
counted_test t = go (slots_sound t) refl
  where
    go : (b : Bool) → slots_sound t ≡ b → table_sound (counted t) ≡ b
    go true e = table_test (counted t) (counted_sound t (slots_fact t e))
    go false e = rw e refl

-- ---- one slot put anew

module _ (t : Table) (k : ℕ) (s : Slot) where
  pub with_slot_same : k < length t.slots → slot_at (with_slot t k s) k ≡ s
  unfolding slot_at with_slot
  with_slot_same h = get_or-set_same t.slots k s no_slot h

  pub with_slot_other : (j : ℕ) → j ≢ k → slot_at (with_slot t k s) j ≡ slot_at t j
  unfolding slot_at with_slot
  with_slot_other j ne = get_or-set_other t.slots k j s no_slot ne

  pub with_slot_size : (with_slot t k s).size ≡ t.size
  unfolding with_slot
  with_slot_size = refl

  with_slot_count : length (with_slot t k s).slots ≡ length t.slots
  unfolding with_slot
  with_slot_count = length-set t.slots k s

  pub with_slot_sound : SlotsSound t → k < 8 → slot_sound t.size s ≡ true → ((j : ℕ) → j < 8 → j ≢ k → Apart (slot_at t j).partition s.partition) → SlotsSound (with_slot t k s)
  with_slot_sound h q ok free =
      record {
        size = rw with_slot_size h.size;
        eight = with_slot_count ∙ h.eight;
        each = λ j p. each j p (ℕ_discrete j k);
        disjoint = λ i j p r ne. disjoint i j p r ne (ℕ_discrete i k) (ℕ_discrete j k);
      }
    where
      kin : k < length t.slots
      kin = omega (arith, h.eight)

      each : (j : ℕ) → j < 8 → Dec (j ≡ k) → slot_sound (with_slot t k s).size (slot_at (with_slot t k s) j) ≡ true
      each j p (yes e) = rw (e, with_slot_same kin, with_slot_size) ok
      each j p (no e) = rw (with_slot_other j e, with_slot_size) (h.each j p)

      disjoint : (i j : ℕ) → i < 8 → j < 8 → i ≢ j → Dec (i ≡ k) → Dec (j ≡ k) → Apart (slot_at (with_slot t k s) i).partition (slot_at (with_slot t k s) j).partition
      disjoint i j p r ne (yes e) (yes f) = absurd (ne (e ∙ sym f))
      disjoint i j p r ne (yes e) (no f) = rw (e, with_slot_same kin, with_slot_other j f) (apart_sym _ _ (free j r f))
      disjoint i j p r ne (no e) (yes f) = rw (f, with_slot_same kin, with_slot_other i e) (free i p e)
      disjoint i j p r ne (no e) (no f) = rw (with_slot_other i e, with_slot_other j f) (h.disjoint i j p r ne)

  -- a slot with the same partition, loaded as it was, leaves the free extents
  with_slot_extents : s.partition ≡ (slot_at t k).partition → is_empty s ≡ is_empty (slot_at t k) → k < length t.slots → free_extents (with_slot t k s) ≡ free_extents t
  with_slot_extents same empty q = extents_alike (with_slot t k s) t with_slot_size (λ j. loaded j (ℕ_discrete j k)) (λ j. partition j (ℕ_discrete j k)) 8
    where
      loaded : (j : ℕ) → Dec (j ≡ k) → is_empty (slot_at (with_slot t k s) j) ≡ is_empty (slot_at t j)
      loaded j (yes e) = rw (e, with_slot_same q) empty
      loaded j (no e) = ap (λ (z : Slot). is_empty z) (with_slot_other j e)

      partition : (j : ℕ) → Dec (j ≡ k) → (slot_at (with_slot t k s) j).partition ≡ (slot_at t j).partition
      partition j (yes e) = rw (e, with_slot_same q) same
      partition j (no e) = ap (λ (z : Slot). z.partition) (with_slot_other j e)

  -- so the two numbers stay true
  pub with_slot_counted : TableSound t → SlotsSound (with_slot t k s) → k < 8 → s.partition ≡ (slot_at t k).partition → is_empty s ≡ is_empty (slot_at t k) → TableSound (with_slot t k s)
  unfolding with_slot
  with_slot_counted h slots q same empty =
      let e : free_extents (with_slot t k s) ≡ free_extents t = with_slot_extents same empty (omega (arith, h.slots.eight)) in
      record { slots = slots; free = h.free ∙ ap extents_total (sym e); widest = h.widest ∙ ap widest_of (sym e) }
