-- Laws that the checker has shown: the lone machine of a slot, read back after its partition is written, and untouched by what is
-- written elsewhere.
use Rattle.std.specs.Prelude.{List, ◌++◌, ◌⊎◌, ◌≡◌, refl, ℕ, ◌+◌, ◌-◌, ◌≤◌, length, take, drop}
use Rattle.std.proofs.Common.{append_assoc, inl, inr, sym, ap, ◌∙◌, arith, length-append, length-drop, take_at, drop_at, take-add, length-take-le}
use Rattle.std.proofs.Math.Seq.{take-length}
use Rattle.common.specs.Layout.{layout_size}
use Rattle.common.specs.declared.layout.Layout.{Layout}
use Rattle.cpu.specs.Machine.{Machine, machine_of}
use Rattle.cpu.specs.MachineKept.{MachineSound}
use Rattle.registers.specs.declared.state.State.{State}
use Rattle.slices.specs.SliceLaws.{part_length, copied_inside, part_before_copy, part_after_copy}
use Rattle.slices.specs.Slices.{part_of, copied}
use Rattle.system.specs.System.{machine_bytes, machine_in}
use Rattle.table.specs.SoundLaws.{StateSound, Loaded}
use Rattle.table.specs.Table.{slot_with_state, partition_end}
use Rattle.table.specs.declared.table.Slot.{Slot}

-- a machine of that layout
pub record HasLayout (l : Layout) (m : Machine) : Type 0 where
  pub locked : m.locked ≡ l.locked
  pub window : length m.window ≡ l.window
  pub input : length m.input ≡ l.input
  pub output : length m.output ≡ l.output

pub bytes_length : (l : Layout) (m : Machine) → HasLayout l m → length (machine_bytes m) ≡ layout_size l
bytes_length l m f = simp (length-append, f.window, f.input, f.output)

-- a machine's state and its bytes are the machine
machine_again : (l : Layout) (m : Machine) → HasLayout l m → machine_of l m.state (machine_bytes m) ≡ m
machine_again l m f =
    let w = m.window in
    let i = m.input in
    let o = m.output in
    let front : length (w ++ i) ≡ l.window + l.input = simp (length-append, f.window, f.input) in
    let all : w ++ i ++ o ≡ w ++ (i ++ o) = append_assoc w i o in
    let first : take l.window (w ++ i ++ o) ≡ w = ap (take l.window) all ∙ take_at w (i ++ o) l.window f.window in
    let second : take l.input (drop l.window (w ++ i ++ o)) ≡ i =
    ap (λ (b : List ℕ). take l.input (drop l.window b)) all
    ∙ ap (take l.input) (drop_at w (i ++ o) l.window f.window)
    ∙ take_at i o l.input f.input in
    let third : take l.output (drop (l.window + l.input) (w ++ i ++ o)) ≡ o =
    ap (take l.output) (drop_at (w ++ i) o (l.window + l.input) front)
    ∙ ap (λ (n : ℕ). take n o) (sym f.output)
    ∙ take-length o in
    let same : l.locked ≡ m.locked = sym f.locked in
    λ j.
    record { state = m.state; locked = same j; window = first j; input = second j; output = third j }

-- the bytes of a machine that is read from as many bytes are these
pub bytes_again : (l : Layout) (z : State) (b : List ℕ) → length b ≡ layout_size l → machine_bytes (machine_of l z b) ≡ b
bytes_again l z b all =
    sym
    (sym (take-length b)
    ∙ ap (λ (n : ℕ). take n b) all
    ∙ take-add (l.window + l.input) l.output b
    ∙ ap (λ (x : List ℕ). x ++ take l.output (drop (l.window + l.input) b)) (take-add l.window l.input b))

-- a partition's own machine has its layout
pub slot_has_layout : (s : Slot) (memory : List ℕ) → partition_end s.partition ≤ length memory → HasLayout s.partition.layout (machine_in s memory)
unfolding machine_in
slot_has_layout s memory h =
    let l = s.partition.layout in
    let b : List ℕ = part_of memory s.partition.base.0 (layout_size l) in
    let all : length b ≡ layout_size l = part_length memory s.partition.base.0 (layout_size l) h in
    let second : length (drop l.window b) ≡ length b - l.window = length-drop l.window b in
    let third : length (drop (l.window + l.input) b) ≡ length b - (l.window + l.input) = length-drop (l.window + l.input) b in
    record {
      locked = refl;
      window = length-take-le l.window b (omega arith);
      input = length-take-le l.input (drop l.window b) (omega arith);
      output = length-take-le l.output (drop (l.window + l.input) b) (omega arith);
    }

pub slot_machine_bytes : (s : Slot) (memory : List ℕ) → partition_end s.partition ≤ length memory → machine_bytes (machine_in s memory) ≡ part_of memory s.partition.base.0 (layout_size s.partition.layout)
unfolding machine_in
slot_machine_bytes s memory h = bytes_again s.partition.layout s.state _ (part_length memory s.partition.base.0 (layout_size s.partition.layout) h)

-- a machine put back into its partition
pub written_back : (s : Slot) (m : Machine) (memory : List ℕ) → HasLayout s.partition.layout m → partition_end s.partition ≤ length memory → machine_in (slot_with_state s m.state) (copied memory s.partition.base.0 (machine_bytes m)) ≡ m
unfolding machine_in
written_back s m memory f h =
    let l = s.partition.layout in
    let at : ℕ = s.partition.base.0 in
    let n : length (machine_bytes m) ≡ layout_size l = bytes_length l m f in
    let inside : at + length (machine_bytes m) ≤ length memory = omega arith in
    let back : part_of (copied memory at (machine_bytes m)) at (layout_size l) ≡ machine_bytes m =
    ap (λ (k : ℕ). part_of (copied memory at (machine_bytes m)) at k) (sym n) ∙ copied_inside memory at (machine_bytes m) inside in
    ap (machine_of l m.state) back ∙ machine_again l m f

-- a stretch that does not meet the partition is written
pub machine_untouched : (s : Slot) (memory : List ℕ) (at : ℕ) (b : List ℕ) → (partition_end s.partition ≤ at) ⊎ (at + length b ≤ s.partition.base.0) → machine_in s (copied memory at b) ≡ machine_in s memory
unfolding machine_in
machine_untouched s memory at b (inl u) = ap (machine_of s.partition.layout s.state) (part_before_copy memory at b s.partition.base.0 (layout_size s.partition.layout) u)
machine_untouched s memory at b (inr u) = ap (machine_of s.partition.layout s.state) (part_after_copy memory at b s.partition.base.0 (layout_size s.partition.layout) u)

-- ---- sound slots have sound machines, and back

pub machine_sound : (size : ℕ) (s : Slot) (memory : List ℕ) → Loaded size s → partition_end s.partition ≤ length memory → MachineSound (machine_in s memory)
unfolding machine_in
machine_sound size s memory f h =
    let z = slot_has_layout s memory h in
    let g = f.state in
    let i = z.input in
    let o = z.output in
    record {
      cpu = record { counter = g.counter; psu = g.psu; returns = g.returns };
      filled = omega (arith, g.filled, i);
      read = g.read;
      written = omega (arith, g.written, o);
      least = g.status.some;
      most = g.status.fits;
      wants_input = g.wants_input;
      full = λ e. g.full e ∙ sym o;
    }

pub state_sound_law : (l : Layout) (m : Machine) → HasLayout l m → MachineSound m → StateSound l m.state
state_sound_law l m z f =
    let i = z.input in
    let o = z.output in
    record {
      status = record { some = f.least; fits = f.most };
      counter = f.cpu.counter;
      returns = f.cpu.returns;
      psu = f.cpu.psu;
      read = f.read;
      filled = omega (arith, f.filled, i);
      written = omega (arith, f.written, o);
      wants_input = f.wants_input;
      full = λ e. f.full e ∙ o;
    }
