-- Laws that the checker has shown: a patch of slot k that keeps to its partition leaves the slots sound, the other slots with their
-- machines, and the bytes in no partition.
use Rattle.std.specs.Prelude.{true, false, List, ◌≢◌, ◌⊎◌, ◌≡◌, ℕ, ◌+◌, ◌≤◌, ◌<◌, get_or}
use Rattle.std.proofs.Common.{inl, inr, ◌∙◌, subst, arith}
use Rattle.std.proofs.Math.Path.{refl, sym, ap}
use Rattle.std.proofs.Math.ListN.{length}
use Rattle.common.specs.declared.places.Location.{Location}
use Rattle.cpu.specs.Machine.{Machine}
use Rattle.registers.specs.declared.state.State.{State}
use Rattle.slices.specs.SliceLaws.{copied_length, byte_before_copy, byte_after_copy}
use Rattle.slices.specs.Slices.{copied}
use Rattle.table.specs.TableConditionLaws.{HoldsPattern}
use Rattle.system.specs.ConditionLaws.{SoundSystem}
use Rattle.table.specs.PartitionByteLaws.{OutsidePartition, outside_partition}
use Rattle.system.specs.SlotMachineLaws.{machine_untouched}
use Rattle.system.specs.System.{System, system, slot_of, Patch, patch, patched, machine_in}
use Rattle.table.specs.SoundLaws.{StateSound, Loaded, Unloaded, slot_fact, slot_test, loaded_live, Apart, apart_cases, SlotsSound, numbered_slots, with_slot_same, with_slot_other, with_slot_size, with_slot_sound, with_slot_counted}
use Rattle.table.specs.Table.{InNoPartition, slot_at, slot_with_state, with_free_bytes, is_empty, is_in_partition, partition_end}
use Rattle.table.specs.Sound.{slot_sound}
use Rattle.table.specs.declared.table.Partition.{Partition}
use Rattle.table.specs.declared.table.Slot.{Slot}

-- the machine of slot k
abbrev pub slot_machine : ℕ → System → Machine
slot_machine k x = machine_in (slot_of x k) x.memory

-- the partition of each slot, an empty one too, is inside the memory
pub slot_inside : (x : System) → SoundSystem x → (k : ℕ) → k < 8 → partition_end (slot_of x k).partition ≤ length x.memory
slot_inside x g k q = go (slot_fact _ _ (g.table.slots.each k q))
  where
    go : Unloaded (slot_of x k) ⊎ Loaded x.table.size (slot_of x k) → partition_end (slot_of x k).partition ≤ length x.memory
    go (inl u) = omega (arith, u.base, u.bytes)
    go (inr f) = rw g.fits f.partition.inside

-- ---- what a patch must meet, and what it keeps

-- a loaded slot in whose partition the patch writes
pub record WritesInside (s : Slot) (p : Patch) : Type 0 where
  pub loaded : is_empty s ≡ false
  pub from : s.partition.base.0 ≤ p.location.0
  pub to : p.location.0 + length p.bytes ≤ partition_end s.partition

-- the new slot is sound and clear of the others, and what is written lies in its partition or in the one before
pub record PatchFits (x : System) (k : ℕ) (p : Patch) : Type 0 where
  pub slot : k < 8
  pub sound : slot_sound x.table.size p.slot ≡ true
  pub clear : (j : ℕ) → j < 8 → j ≢ k → Apart (slot_of x j).partition p.slot.partition
  pub inside : WritesInside (slot_of x k) p ⊎ WritesInside p.slot p

-- sound slots over the same length of memory, the other slots with their machines, and the bytes in no partition before and after
pub record KeepsOthers (k : ℕ) (x y : System) : Type 0 where
  pub sound : SlotsSound y.table
  pub fits : length y.memory ≡ y.table.size
  pub slots : (j : ℕ) → j ≢ k → slot_of y j ≡ slot_of x j
  pub machines : (j : ℕ) → j < 8 → j ≢ k → slot_machine j y ≡ slot_machine j x
  pub bytes : (i : ℕ) → InNoPartition i x.table → InNoPartition i y.table → get_or y.memory i 0 ≡ get_or x.memory i 0

module _ (x : System) (g : SoundSystem x) (k : ℕ) (p : Patch) where
  pub patched_slot : k < 8 → slot_of (patched x k p) k ≡ p.slot
  unfolding patched
  patched_slot q = with_slot_same x.table k p.slot (omega (arith, g.table.slots.eight))

  patched_others : (j : ℕ) → j ≢ k → slot_of (patched x k p) j ≡ slot_of x j
  unfolding patched
  patched_others j ne = with_slot_other x.table k p.slot j ne

  -- what is written does not meet a partition that is apart from the one written in
  written_apart : (s : Slot) → WritesInside s p → (q : Partition) → Apart q s.partition → (partition_end q ≤ p.location.0) ⊎ (p.location.0 + length p.bytes ≤ q.base.0)
  written_apart s h q a = go (apart_cases q s.partition a)
    where
      go : (partition_end q ≤ s.partition.base.0) ⊎ (partition_end s.partition ≤ q.base.0) → (partition_end q ≤ p.location.0) ⊎ (p.location.0 + length p.bytes ≤ q.base.0)
      go (inl u) = inl (omega (arith, h.from))
      go (inr u) = inr (omega (arith, h.to))

  -- a byte outside the partition that is written in is as it was
  outside_unwritten : (s : Slot) → WritesInside s p → (i : ℕ) → is_in_partition s i ≡ false → get_or (copied x.memory p.location.0 p.bytes) i 0 ≡ get_or x.memory i 0
  outside_unwritten s h i o = go (outside_partition s i o h.loaded)
    where
      go : OutsidePartition s.partition i → get_or (copied x.memory p.location.0 p.bytes) i 0 ≡ get_or x.memory i 0
      go (inl u) = byte_before_copy x.memory p.location.0 p.bytes i (omega (arith, h.from))
      go (inr u) = byte_after_copy x.memory p.location.0 p.bytes i (omega (arith, h.to))

  -- the one lemma about patches
  pub patch_keeps : PatchFits x k p → KeepsOthers k x (patched x k p)
  unfolding patched InNoPartition
  patch_keeps f =
      record {
        sound = with_slot_sound x.table k p.slot g.table.slots f.slot f.sound f.clear;
        fits = copied_length x.memory p.location.0 p.bytes ∙ g.fits ∙ sym (with_slot_size x.table k p.slot);
        slots = patched_others;
        machines = λ j q ne.
            ap (λ (z : Slot). machine_in z (copied x.memory p.location.0 p.bytes)) (patched_others j ne)
            ∙ machine_untouched (slot_of x j) x.memory p.location.0 p.bytes (clear j q ne f.inside);
        bytes = λ i h₀ h₁. bytes i h₀ h₁ f.inside;
      }
    where
      clear : (j : ℕ) → j < 8 → j ≢ k → WritesInside (slot_of x k) p ⊎ WritesInside p.slot p → (partition_end (slot_of x j).partition ≤ p.location.0) ⊎ (p.location.0 + length p.bytes ≤ (slot_of x j).partition.base.0)
      clear j q ne (inl h) = written_apart (slot_of x k) h (slot_of x j).partition (g.table.slots.disjoint j k q f.slot ne)
      clear j q ne (inr h) = written_apart p.slot h (slot_of x j).partition (f.clear j q ne)

      bytes : (i : ℕ) → InNoPartition i x.table → InNoPartition i (patched x k p).table → WritesInside (slot_of x k) p ⊎ WritesInside p.slot p → get_or (copied x.memory p.location.0 p.bytes) i 0 ≡ get_or x.memory i 0
      bytes i h₀ h₁ (inl h) = outside_unwritten (slot_of x k) h i (h₀ k f.slot)
      bytes i h₀ h₁ (inr h) = outside_unwritten p.slot h i (subst (λ (s : Slot). is_in_partition s i ≡ false) (patched_slot f.slot) (h₁ k f.slot))

-- other numbers of the table's free bytes: the slots and the memory stay
pub numbers_keep : (k : ℕ) (x y : System) (free widest : ℕ) → KeepsOthers k x y → KeepsOthers k x (system (with_free_bytes y.table free widest) y.memory)
unfolding slot_at InNoPartition
numbers_keep k x y free widest h =
    record { sound = numbered_slots y.table free widest h.sound; fits = h.fits; slots = h.slots; machines = h.machines; bytes = h.bytes }

-- another state in the partition of a loaded slot, and bytes in it
module _ (x : System) (k : ℕ) (h : HoldsPattern x.table k) (z : State) (location : Location) (bytes : List ℕ) (s : StateSound (slot_of x k).partition.layout z)
    (l : (slot_of x k).partition.base.0 ≤ location.0) (u : location.0 + length bytes ≤ partition_end (slot_of x k).partition) where
  abbrev state_patch : Patch
  state_patch = patch (slot_with_state (slot_of x k) z) location bytes

  pub state_loaded : Loaded x.table.size state_patch.slot
  state_loaded = record { partition = h.loaded.partition; state = s }

  pub state_fits : PatchFits x k state_patch
  state_fits =
      record {
        slot = h.slot;
        sound = slot_test _ state_patch.slot state_loaded;
        clear = λ j q ne. h.table.slots.disjoint j k q h.slot ne;
        inside = inl (record { loaded = loaded_live _ _ h.loaded; from = l; to = u });
      }

  -- the partition stays, and so the free bytes are counted as they were
  pub state_put : SoundSystem x → SoundSystem (patched x k state_patch)
  unfolding patched
  state_put g =
      let kept = patch_keeps x g k state_patch state_fits in
      record {
        table = with_slot_counted x.table k state_patch.slot g.table kept.sound h.slot refl (loaded_live _ _ state_loaded ∙ sym (loaded_live _ _ h.loaded));
        fits = kept.fits;
      }
