-- Laws that the checker has shown: in a round each loaded slot goes on as the lone machine, whatever the others do.
use Rattle.std.specs.Prelude.{false, List, ◌≢◌, ◌⊎◌, ◌≡◌, refl, ℕ, zero, suc, ◌+◌, ◌*◌, ◌≤◌, ◌<◌, length}
use Rattle.std.proofs.Common.{inl, inr, sym, ◌∙◌, zero-mul, arith}
use Rattle.std.proofs.Math.Path.{ap}
use Rattle.std.proofs.Math.Decide.{ℕ_discrete}
use Rattle.std.proofs.lemmas.List.{set-get_or}
use Rattle.common.specs.Layout.{layout_size}
use Rattle.common.specs.Repetition.{times}
use Rattle.cpu.specs.Machine.{Machine, machine_step}
use Rattle.cpu.proofs.MachineLaws.{times_sizes, times_sound}
use Rattle.common.specs.RepetitionLaws.{times_add}
use Rattle.cpu.specs.RestLaws.{times_rests}
use Rattle.slices.specs.SliceLaws.{copy_self}
use Rattle.slices.specs.Slices.{copied}
use Rattle.table.specs.TableConditionLaws.{HoldsPattern}
use Rattle.system.specs.ConditionLaws.{SoundSystem}
use Rattle.system.specs.SlotMachineLaws.{HasLayout, bytes_length, slot_has_layout, slot_machine_bytes, written_back, machine_sound, state_sound_law}
use Rattle.system.specs.System.{System, system, slot_of, patched, machine_in, machine_bytes}
use Rattle.system.specs.Running.{machine_after_quantum, quantum_patch, slot_quantum, slot_quanta, after_run}
use Rattle.system.specs.PatchLaws.{slot_machine, slot_inside, KeepsOthers, patched_slot, patch_keeps, state_fits, state_put}
use Rattle.table.specs.SoundLaws.{StateSound, Loaded, Unloaded, slot_fact, loaded_slot_law, loaded_live}
use Rattle.table.specs.Table.{InNoPartition, no_slot, slot_at, with_slot, slot_with_state, is_empty, is_in_partition, partition_end}
use Rattle.table.specs.declared.table.Partition.{Partition}
use Rattle.table.specs.declared.table.Slot.{Slot}
use Rattle.table.specs.declared.table.Table.{Table}
use Rattle.system.specs.RoundsKept.{DiffersByRunning}

pub running_refl : (x : System) → SoundSystem x → DiffersByRunning x x
running_refl x g = record { system = g; partitions = λ k. refl; loaded = λ k. refl; bytes = λ i h. refl }

-- the same bytes are in no partition
same_in_no_partition : (x y : System) → ((k : ℕ) → (slot_of y k).partition ≡ (slot_of x k).partition) → ((k : ℕ) → is_empty (slot_of y k) ≡ is_empty (slot_of x k)) → (i : ℕ) → InNoPartition i x.table → InNoPartition i y.table
unfolding InNoPartition is_in_partition
same_in_no_partition x y p m i h = λ k q. rw (p k, m k) (h k q)

pub running_trans : (x y z : System) → DiffersByRunning x y → DiffersByRunning y z → DiffersByRunning x z
running_trans x y z p q =
    record {
      system = q.system;
      partitions = λ k. q.partitions k ∙ p.partitions k;
      loaded = λ k. q.loaded k ∙ p.loaded k;
      bytes = λ i h. q.bytes i (same_in_no_partition x y p.partitions p.loaded i h) ∙ p.bytes i h;
    }

-- ---- one slot's quantum

-- a slot with its own machine's state is itself, and put where it stands it changes nothing
slot_again : (s : Slot) (memory : List ℕ) → slot_with_state s (machine_in s memory).state ≡ s
unfolding machine_in
slot_again s memory = refl

with_slot_self : (t : Table) (k : ℕ) → with_slot t k (slot_at t k) ≡ t
unfolding with_slot slot_at
with_slot_self t k = λ i. record { size = t.size; free = t.free; widest = t.widest; slots = set-get_or t.slots k no_slot i }

pub status_of : (s : Slot) (memory : List ℕ) → (machine_in s memory).state.status ≡ s.state.status
unfolding machine_in
status_of s memory = refl

-- the quantum of a slot whose machine does not run changes nothing
pub resting_quantum : (x : System) (k : ℕ) → partition_end (slot_of x k).partition ≤ length x.memory → (slot_of x k).state.status ≢ 1 → slot_quantum k x ≡ x
unfolding slot_quantum patched
resting_quantum x k h rests =
    let s : Slot = slot_of x k in
    let base : ℕ = s.partition.base.0 in
    ap (λ (m : Machine). patched x k (quantum_patch s m)) (times_rests _ (machine_in s x.memory) (λ e. rests (sym (status_of s x.memory) ∙ e)))
    ∙ ap (λ (z : Slot). system (with_slot x.table k z) (copied x.memory base (machine_bytes (machine_in s x.memory)))) (slot_again s x.memory)
    ∙ ap (λ (t : Table). system t (copied x.memory base (machine_bytes (machine_in s x.memory)))) (with_slot_self x.table k)
    ∙ ap (system x.table) (ap (copied x.memory base) (slot_machine_bytes s x.memory h) ∙ copy_self x.memory base (layout_size s.partition.layout) h)

module _ (x : System) (g : SoundSystem x) (k : ℕ) (q : k < 8) where
  -- an empty slot's quantum changes nothing
  empty_quantum : Unloaded (slot_of x k) → slot_quantum k x ≡ x
  empty_quantum u =
      let b = u.base in
      let n = u.bytes in
      let s = u.status in
      resting_quantum x k (omega arith) (λ e. omega arith)

  module _ (m : Loaded x.table.size (slot_of x k)) where
    abbrev next_machine : Machine
    next_machine = machine_after_quantum x k

    slot_fits_memory : partition_end (slot_of x k).partition ≤ length x.memory
    slot_fits_memory = slot_inside x g k q

    next_has_layout : HasLayout (slot_of x k).partition.layout next_machine
    next_has_layout =
        let z = slot_has_layout (slot_of x k) x.memory slot_fits_memory in
        let t = times_sizes _ (machine_in (slot_of x k) x.memory) in
        record { locked = t.locked ∙ z.locked; window = t.window ∙ z.window; input = t.input ∙ z.input; output = t.output ∙ z.output }

    next_sound : StateSound (slot_of x k).partition.layout next_machine.state
    next_sound =
        state_sound_law (slot_of x k).partition.layout next_machine next_has_layout (times_sound _ _ (machine_sound _ (slot_of x k) x.memory m slot_fits_memory))

    holds : HoldsPattern x.table k
    holds = record { table = g.table; slot = q; loaded = m }

    loaded_keeps : KeepsOthers k x (slot_quantum k x)
    unfolding slot_quantum
    loaded_keeps =
        let n = bytes_length (slot_of x k).partition.layout next_machine next_has_layout in
        patch_keeps x g k (quantum_patch (slot_of x k) next_machine)
        (state_fits x k holds next_machine.state (slot_of x k).partition.base (machine_bytes next_machine) next_sound (omega arith) (omega arith))

    loaded_system : SoundSystem (slot_quantum k x)
    unfolding slot_quantum
    loaded_system =
        let n = bytes_length (slot_of x k).partition.layout next_machine next_has_layout in
        state_put x k holds next_machine.state (slot_of x k).partition.base (machine_bytes next_machine) next_sound (omega arith) (omega arith) g

    quantum_slot : slot_of (slot_quantum k x) k ≡ slot_with_state (slot_of x k) next_machine.state
    unfolding slot_quantum
    quantum_slot = patched_slot x g k (quantum_patch (slot_of x k) next_machine) q

    loaded_running : DiffersByRunning x (slot_quantum k x)
    loaded_running =
        record {
          system = loaded_system;
          partitions = λ j. partitions j (ℕ_discrete j k);
          loaded = λ j. live j (ℕ_discrete j k);
          bytes = λ i h. loaded_keeps.bytes i h (same_in_no_partition x (slot_quantum k x) (λ j. partitions j (ℕ_discrete j k)) (λ j. live j (ℕ_discrete j k)) i h);
        }
      where
        partitions : (j : ℕ) → Dec (j ≡ k) → (slot_of (slot_quantum k x) j).partition ≡ (slot_of x j).partition
        partitions j (yes e) = rw (e, quantum_slot)
        partitions j (no e) = ap (λ (s : Slot). s.partition) (loaded_keeps.slots j e)

        live : (j : ℕ) → Dec (j ≡ k) → is_empty (slot_of (slot_quantum k x) j) ≡ is_empty (slot_of x j)
        live j (yes e) = rw (e, quantum_slot) (loaded_live _ (slot_with_state (slot_of x k) next_machine.state) (record { partition = m.partition; state = next_sound }) ∙ sym (loaded_live _ _ m))
        live j (no e) = ap (λ (s : Slot). is_empty s) (loaded_keeps.slots j e)

    -- its own machine takes its quantum
    loaded_own : slot_machine k (slot_quantum k x) ≡ times (slot_of x k).partition.quantum machine_step (slot_machine k x)
    unfolding slot_quantum patched
    loaded_own =
        ap (λ (z : Slot). machine_in z (slot_quantum k x).memory) quantum_slot ∙ written_back (slot_of x k) next_machine x.memory next_has_layout slot_fits_memory

-- ---- quanta and rounds

module _ (x : System) (g : SoundSystem x) (k : ℕ) (q : k < 8) where
  pub quantum_running : DiffersByRunning x (slot_quantum k x)
  quantum_running = go (slot_fact _ _ (g.table.slots.each k q))
    where
      go : Unloaded (slot_of x k) ⊎ Loaded x.table.size (slot_of x k) → DiffersByRunning x (slot_quantum k x)
      go (inl u) = rw (empty_quantum x g k q u) (running_refl x g)
      go (inr m) = loaded_running x g k q m

  pub quantum_own : is_empty (slot_of x k) ≡ false → slot_machine k (slot_quantum k x) ≡ times (slot_of x k).partition.quantum machine_step (slot_machine k x)
  quantum_own m = loaded_own x g k q (loaded_slot_law _ _ (g.table.slots.each k q) m)

  pub quantum_other : (j : ℕ) → j < 8 → j ≢ k → slot_machine j (slot_quantum k x) ≡ slot_machine j x
  quantum_other j p ne = go (slot_fact _ _ (g.table.slots.each k q))
    where
      go : Unloaded (slot_of x k) ⊎ Loaded x.table.size (slot_of x k) → slot_machine j (slot_quantum k x) ≡ slot_machine j x
      go (inl u) = rw (empty_quantum x g k q u)
      go (inr m) = (loaded_keeps x g k q m).machines j p ne

pub quanta_running : (n : ℕ) → n ≤ 8 → (x : System) → SoundSystem x → DiffersByRunning x (slot_quanta n x)
unfolding slot_quanta
quanta_running zero h x g = running_refl x g
quanta_running (suc n) h x g =
    let s : DiffersByRunning x (slot_quanta n x) = quanta_running n (omega arith) x g in
    running_trans x (slot_quanta n x) (slot_quantum n (slot_quanta n x)) s (quantum_running (slot_quanta n x) s.system n (omega arith))

-- slots from n on have not yet taken their quantum; those below have
quanta_wait : (n : ℕ) → n ≤ 8 → (x : System) → SoundSystem x → (j : ℕ) → j < 8 → n ≤ j → slot_machine j (slot_quanta n x) ≡ slot_machine j x
unfolding slot_quanta
quanta_wait zero h x g j p l = refl
quanta_wait (suc n) h x g j p l =
    let s : DiffersByRunning x (slot_quanta n x) = quanta_running n (omega arith) x g in
    quantum_other (slot_quanta n x) s.system n (omega arith) j p (omega arith) ∙ quanta_wait n (omega arith) x g j p (omega arith)

quanta_done : (n : ℕ) → n ≤ 8 → (x : System) → SoundSystem x → (j : ℕ) → j < n → is_empty (slot_of x j) ≡ false → slot_machine j (slot_quanta n x) ≡ times (slot_of x j).partition.quantum machine_step (slot_machine j x)
unfolding slot_quanta
quanta_done zero h x g j l mj = absurd (omega arith)
quanta_done (suc n) h x g j l mj = go (ℕ_discrete j n) (quanta_done n (omega arith) x g j)
  where
    s : DiffersByRunning x (slot_quanta n x)
    s = quanta_running n (omega arith) x g

    go : Dec (j ≡ n) → (j < n → is_empty (slot_of x j) ≡ false → slot_machine j (slot_quanta n x) ≡ times (slot_of x j).partition.quantum machine_step (slot_machine j x)) → slot_machine j (slot_quantum n (slot_quanta n x)) ≡ times (slot_of x j).partition.quantum machine_step (slot_machine j x)
    go (no e) ih = quantum_other (slot_quanta n x) s.system n (omega arith) j (omega arith) e ∙ ih (omega arith) mj
    go (yes e) ih =
        ap (λ (i : ℕ). slot_machine j (slot_quantum i (slot_quanta n x))) (sym e)
        ∙ quantum_own (slot_quanta n x) s.system j (omega arith) (s.loaded j ∙ mj)
        ∙ ap (λ (p : Partition). times p.quantum machine_step (slot_machine j (slot_quanta n x))) (s.partitions j)
        ∙ ap (times (slot_of x j).partition.quantum machine_step) (quanta_wait n (omega arith) x g j (omega arith) (omega arith))

pub rounds_running : (c : ℕ) (x : System) → SoundSystem x → DiffersByRunning x (after_run c x)
unfolding after_run times
rounds_running zero x g = running_refl x g
rounds_running (suc c) x g =
    let s : DiffersByRunning x (times c (slot_quanta 8) x) = rounds_running c x g in
    running_trans x (times c (slot_quanta 8) x) (slot_quanta 8 (times c (slot_quanta 8) x)) s (quanta_running 8 (omega arith) (times c (slot_quanta 8) x) s.system)

-- after c rounds a loaded slot stands where the lone machine is after c times its quantum
pub rounds_machine : (c : ℕ) (x : System) → SoundSystem x → (j : ℕ) → j < 8 → is_empty (slot_of x j) ≡ false → slot_machine j (after_run c x) ≡ times (c * (slot_of x j).partition.quantum) machine_step (slot_machine j x)
unfolding after_run times
rounds_machine zero x g j p mj = rw zero-mul
rounds_machine (suc c) x g j p mj =
    let y : System = times c (slot_quanta 8) x in
    let s : DiffersByRunning x y = rounds_running c x g in
    let n : ℕ = (slot_of x j).partition.quantum in
    let e : n + c * n ≡ suc c * n = omega arith in
    quanta_done 8 (omega arith) y s.system j p (s.loaded j ∙ mj)
    ∙ ap (λ (q : Partition). times q.quantum machine_step (slot_machine j y)) (s.partitions j)
    ∙ ap (times n machine_step) (rounds_machine c x g j p mj)
    ∙ sym (times_add machine_step n (c * n) (slot_machine j x))
    ∙ ap (λ (i : ℕ). times i machine_step (slot_machine j x)) e
