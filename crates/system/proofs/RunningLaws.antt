-- A quantum on the lent bytes of a partition is the machine's, and a round by loops is the definition's.
use mathlib.Core.Bool.{true}
use mathlib.Core.List.{List, ◌++◌, append_assoc}
use mathlib.Core.Path.{◌≡◌, refl, sym, ap, ◌∙◌, subst}
use Prim.Native.Nat.{ℕ, ◌+◌, ◌≤◌, ◌<◌}
use native.Mathlib.Omega.{arith}
use lib.ListN.{length, take, drop}
use lib.Seq.{drop-drop}
use native.Mathlib.Numerals.{add-one}
use Rattle.common.specs.Layout.{layout_size}
use Rattle.common.specs.RefusalLaws.{none_holds}
use Rattle.common.specs.Refusals.{refusal_by}
use Rattle.common.specs.Repetition.{times}
use Rattle.common.specs.RepetitionLaws.{times_zero, times_suc}
use Rattle.cpu.specs.Machine.{Machine, machine_of, machine_step}
use Rattle.registers.specs.declared.state.State.{State}
use Rattle.slices.specs.SliceLaws.{copied_whole}
use Rattle.slices.specs.Slices.{part_of, copied}
use Rattle.system.specs.ConditionLaws.{SoundSystem, system_numbered, system_sound}
use Rattle.system.specs.SlotMachineLaws.{bytes_again}
use Rattle.system.specs.System.{System, system, slot_of, patched, machine_in, machine_bytes}
use Rattle.system.specs.Conditions.{system_conditions}
use Rattle.system.specs.Running.{after_quantum, slot_quantum, slot_quanta, after_run}
use Rattle.system.specs.PatchLaws.{slot_inside}
use Rattle.system.proofs.RoundLaws.{resting_quantum, quanta_running, rounds_running}
use Rattle.table.specs.SoundLaws.{table_fact, table_test}
use Rattle.table.specs.Table.{slot_at, with_slot, slot_with_state, partition_end}
use Rattle.table.specs.Sound.{table_sound}
use Rattle.table.specs.declared.table.Slot.{Slot}
use Rattle.table.specs.declared.table.Table.{Table}

written_as_copied : (memory y : List ℕ) (base n : ℕ) → length y ≡ n → base + n ≤ length memory → take base memory ++ (y ++ drop n (drop base memory)) ≡ copied memory base y
written_as_copied memory y base n e h =
    let back : drop n (drop base memory) ≡ drop (base + length y) memory = drop-drop n base memory ∙ ap (λ (k : ℕ). drop (base + k) memory) (sym e) in
    ap (λ (l : List ℕ). take base memory ++ (y ++ l)) back
    ∙ sym (append_assoc (take base memory) y (drop (base + length y) memory))
    ∙ sym (copied_whole memory base y (omega arith))

module _ (s : Slot) (memory y : List ℕ) (r : State) (n : ℕ) (e : n ≡ layout_size s.partition.layout) (h : partition_end s.partition ≤ length memory) (l : length y ≡ n)
    (ran : machine_of s.partition.layout r y ≡ times s.partition.quantum machine_step (machine_of s.partition.layout s.state (part_of memory s.partition.base.0 n))) where
  after_quantum_is : machine_of s.partition.layout r y ≡ after_quantum s memory
  unfolding machine_in
  after_quantum_is =
      ran
      ∙ ap (λ (k : ℕ). times s.partition.quantum machine_step (machine_of s.partition.layout s.state (part_of memory s.partition.base.0 k))) e

  pub quantum_state : r ≡ (after_quantum s memory).state
  quantum_state = ap (λ (m : Machine). m.state) after_quantum_is

  pub quantum_memory : take s.partition.base.0 memory ++ (y ++ drop n (drop s.partition.base.0 memory)) ≡ copied memory s.partition.base.0 (machine_bytes (after_quantum s memory))
  quantum_memory =
      written_as_copied memory y s.partition.base.0 n l (omega arith)
      ∙ ap (copied memory s.partition.base.0) (sym (bytes_again s.partition.layout r y (l ∙ e)) ∙ ap (λ (m : Machine). machine_bytes m) after_quantum_is)

-- ---- quanta by loops

-- a slot that runs takes its quantum
pub quantum_taken : (t : Table) (memory memory' : List ℕ) (k : ℕ) (r : State) → r ≡ (after_quantum (slot_at t k) memory).state → memory' ≡ copied memory (slot_at t k).partition.base.0 (machine_bytes (after_quantum (slot_at t k) memory)) → system (with_slot t k (slot_with_state (slot_at t k) r)) memory' ≡ slot_quantum k (system t memory)
unfolding slot_quantum patched
quantum_taken t memory memory' k r e f =
    ap (λ (z : State). system (with_slot t k (slot_with_state (slot_at t k) z)) memory') e
    ∙ ap (system (with_slot t k (slot_with_state (slot_at t k) (after_quantum (slot_at t k) memory).state))) f

-- a slot that does not run is left
pub quantum_skipped : (x : System) → SoundSystem x → (k : ℕ) → k < 8 → ((slot_of x k).state.status ≡ 1 → ⊥) → x ≡ slot_quantum k x
quantum_skipped x g k q n = sym (resting_quantum x k (slot_inside x g k q) n)

pub quanta_zero : (x : System) → x ≡ slot_quanta 0 x
unfolding slot_quanta
quanta_zero x = refl

pub quanta_more : (k : ℕ) (x y z : System) → y ≡ slot_quanta k x → z ≡ slot_quantum k y → z ≡ slot_quanta (k + 1) x
unfolding slot_quanta
quanta_more k x y z e f = rw (add-one) (f ∙ ap (slot_quantum k) e)

pub quanta_sound : (k : ℕ) (x y : System) → k ≤ 8 → SoundSystem x → y ≡ slot_quanta k x → SoundSystem y
quanta_sound k x y q g e = subst SoundSystem (sym e) (quanta_running k q x g).system

-- no round is made, and one more
pub rounds_begin : (x : System) → x ≡ times 0 (slot_quanta 8) x
rounds_begin x = sym (times_zero (slot_quanta 8) x)

pub rounds_more : (c k : ℕ) (x y z : System) → k ≡ 8 → y ≡ times c (slot_quanta 8) x → z ≡ slot_quanta k y → z ≡ times (c + 1) (slot_quanta 8) x
rounds_more c k x y z e f h = h ∙ ap (λ (n : ℕ). slot_quanta n y) e ∙ ap (slot_quanta 8) f ∙ sym (times_suc (slot_quanta 8) c x)

pub rounds_sound : (c : ℕ) (x y : System) → SoundSystem x → y ≡ times c (slot_quanta 8) x → SoundSystem y
unfolding after_run
rounds_sound c x y g e = subst SoundSystem (sym e) (rounds_running c x g).system

pub rounds_done : (c n : ℕ) (x y : System) → c ≡ n → y ≡ times c (slot_quanta 8) x → y ≡ after_run n x
unfolding after_run
rounds_done c n x y e f = f ∙ ap (λ (i : ℕ). times i (slot_quanta 8) x) e

pub start_sound : (t : Table) (memory : List ℕ) → table_sound t ≡ true → length memory ≡ t.size → SoundSystem (system t memory)
start_sound t memory s l = record { table = table_fact t s; fits = l }

-- ---- the call

-- an accepted run has a sound table with its memory
pub run_refusal_sound : (x : System) {n : ℕ} → n ≡ refusal_by (system_conditions x) → n ≡ 0 → (table_sound x.table ≡ true) × (length x.memory ≡ x.table.size)
run_refusal_sound x e none =
    let g : SoundSystem x = system_sound x (none_holds (system_conditions x) (system_numbered x) (sym e ∙ none)) in
    (table_test x.table g.table, g.fits)
