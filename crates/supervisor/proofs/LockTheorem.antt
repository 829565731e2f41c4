-- Laws that the checker has shown: the proof of `LockKept`. A slot that is left alone is the lone machine (`isolation`), and no step of that
-- machine stores below its lock.
use Rattle.std.specs.Prelude.{true, false, List, ◌≡◌, refl, ℕ, ◌+◌, ◌*◌, ◌<◌, length, get_or, take, drop}
use Rattle.std.proofs.Common.{sym, ap, subst, ◌∙◌, arith, get_or-take, get_or-drop}
use Rattle.common.specs.Layout.{layout_size}
use Rattle.common.specs.LayoutLaws.{LayoutSound}
use Rattle.common.specs.Repetition.{times}
use Rattle.common.specs.declared.layout.Layout.{Layout}
use Rattle.cpu.specs.Machine.{Machine, machine_step}
use Rattle.cpu.proofs.MachineLaws.{times_sizes, times_locked, times_unlocked}
use Rattle.slices.specs.Slices.{part_of}
use Rattle.system.specs.ConditionLaws.{SoundSystem, loaded_ready}
use Rattle.supervisor.specs.Events.{Event, after_events, rounds_of_events}
use Rattle.supervisor.specs.Isolation.{Isolation, LeftAloneThroughout}
use Rattle.supervisor.proofs.IsolationTheorem.{isolation}
use Rattle.supervisor.specs.LockKept.{LockKept}
use Rattle.system.proofs.RoundLaws.{status_of}
use Rattle.table.specs.Sound.{table_sound}
use Rattle.table.specs.SoundLaws.{table_fact}
use Rattle.system.specs.System.{System, slot_of, machine_in}
use Rattle.table.specs.Table.{is_empty}
use Rattle.table.specs.declared.table.Partition.{Partition}
use Rattle.table.specs.declared.table.Slot.{Slot}

-- the bytes of a machine below its lock
abbrev locked_bytes : Machine → List ℕ
locked_bytes m = take m.locked m.window

-- those of a slot's machine stand in memory from the partition's base on
locked_byte : (s : Slot) (memory : List ℕ) → LayoutSound s.partition.layout → (i : ℕ) → i < s.partition.layout.locked
    → get_or (locked_bytes (machine_in s memory)) i 0 ≡ get_or memory (s.partition.base.0 + i) 0
unfolding machine_in
locked_byte s memory f i below =
    let l : Layout = s.partition.layout in
    let at : ℕ = s.partition.base.0 in
    let inside = f.locked in
    let b : List ℕ = part_of memory at (layout_size l) in
    get_or-take l.locked (take l.window b) i 0 below
    ∙ get_or-take l.window b i 0 (omega arith)
    ∙ get_or-take (layout_size l) (drop at memory) i 0 (omega arith)
    ∙ get_or-drop at memory i 0

locked_of : (s : Slot) (memory : List ℕ) → (machine_in s memory).locked ≡ s.partition.layout.locked
unfolding machine_in
locked_of s memory = refl

module _ (x : System) (events : List Event) (g : SoundSystem x) (d : Isolation x events) (k : ℕ) (q : k < 8) (m : is_empty (slot_of x k) ≡ false) (l : LeftAloneThroughout k events x) where
  abbrev before : Slot
  before = slot_of x k

  abbrev after : Slot
  after = slot_of (after_events events x) k

  abbrev memory' : List ℕ
  memory' = (after_events events x).memory

  -- how many steps the lone machine makes, and itself
  abbrev step_count : ℕ
  step_count = rounds_of_events events x * before.partition.quantum

  abbrev lone : Machine
  lone = machine_in before x.memory

  before_sound : LayoutSound before.partition.layout
  before_sound = (loaded_ready x k g q m).holds.loaded.partition.layout

  same_partition : after.partition ≡ before.partition
  same_partition = d.partition k q m l

  bytes_kept : (i : ℕ) → i < before.partition.layout.locked
      → get_or memory' (before.partition.base.0 + i) 0 ≡ get_or x.memory (before.partition.base.0 + i) 0
  bytes_kept i below =
      let sound : LayoutSound after.partition.layout = subst (λ (p : Partition). LayoutSound p.layout) (sym same_partition) before_sound in
      let lower : i < after.partition.layout.locked = subst (λ (p : Partition). i < p.layout.locked) (sym same_partition) below in
      ap (λ (p : Partition). get_or memory' (p.base.0 + i) 0) (sym same_partition)
      ∙ sym (locked_byte after memory' sound i lower)
      ∙ ap (λ (n : Machine). get_or (locked_bytes n) i 0) (d.machine k q m l)
      ∙ ap (λ (n : ℕ). get_or (take n (times step_count machine_step lone).window) i 0) (times_sizes step_count lone).locked
      ∙ ap (λ (b : List ℕ). get_or b i 0) (times_locked step_count lone)
      ∙ locked_byte before x.memory before_sound i below

  unlocked_kept : before.partition.layout.locked ≡ 0 → after.state.status ≡ 8 → before.state.status ≡ 8
  unlocked_kept none e =
      sym (status_of before x.memory)
      ∙ times_unlocked step_count lone (locked_of before x.memory ∙ none)
      (sym (ap (λ (n : Machine). n.state.status) (d.machine k q m l)) ∙ status_of after memory' ∙ e)

-- Document 02's locked front, over any list of events.
pub lock_kept : (x : System) (events : List Event) → table_sound x.table ≡ true → length x.memory ≡ x.table.size → LockKept x events
lock_kept x events h f =
    let g : SoundSystem x = record { table = table_fact x.table h; fits = f } in
    let d : Isolation x events = isolation x events h f in
    record { bytes = bytes_kept x events g d; unlocked = unlocked_kept x events g d }
