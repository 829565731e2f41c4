-- Definitions that must be believed: a table and its memory, the machine of a slot, the change of one slot, and what a call leaves.
use Rattle.std.specs.Prelude.{ℕ, eqb, List, ◌++◌, Result}
use Rattle.common.specs.Choice.{when◌then◌else◌}
use Rattle.common.specs.Layout.{layout_size}
use Rattle.cpu.specs.Machine.{Machine, machine_of}
use Rattle.slices.specs.Slices.{copied, part_of}
use Rattle.table.specs.Table.{answer_in, slot_at, with_slot}
use Rattle.common.specs.declared.places.Location.{Location}
use Rattle.table.specs.declared.table.RefusedCall.{RefusedCall}
use Rattle.table.specs.declared.table.Slot.{Slot}
use Rattle.table.specs.declared.table.Table.{Table}

-- a table and its memory
pub record System : Type 0 where
  pub table : Table
  pub memory : List ℕ

-- a system made of its two parts
abbrev pub system : Table → List ℕ → System
system t memory = record { table = t; memory = memory }

-- the slot of that number in its table
abbrev pub slot_of : System → ℕ → Slot
slot_of x k = slot_at x.table k

-- the lone machine of a slot: its state, and the bytes of its partition
unfoldable pub machine_in : Slot → List ℕ → Machine
machine_in s memory = machine_of s.partition.layout s.state (part_of memory s.partition.base.0 (layout_size s.partition.layout))

-- a machine's bytes in the order of a partition
abbrev pub machine_bytes : Machine → List ℕ
machine_bytes m = m.window ++ m.input ++ m.output

-- the change of one slot: its new value, and the bytes that are written at a location
pub record Patch : Type 0 where
  pub slot : Slot
  pub location : Location
  pub bytes : List ℕ

abbrev pub patch : Slot → Location → List ℕ → Patch
patch s location bytes = record { slot = s; location = location; bytes = bytes }

-- slot k changed so
unfoldable pub patched : System → ℕ → Patch → System
patched x k p = system (with_slot x.table k p.slot) (copied x.memory p.location.0 p.bytes)

-- what a call answers and leaves, as one value: every contract of an operation is an equation of this
pub record Outcome : Type 0 where
  pub refusal : ℕ
  pub after : System

abbrev pub outcome : ℕ → Table → List ℕ → Outcome
outcome n t memory = record { refusal = n; after = system t memory }

-- the same of an answer of the code, and of the memory that the call leaves
abbrev pub answer_outcome : Result Table RefusedCall → List ℕ → Outcome
answer_outcome r memory = outcome (answer_in r).refusal (answer_in r).table memory

-- the outcome of a call by its refusal, 0 for none, and by what it leaves if it is accepted. A refused call hands back the table that it was
-- given, and changes no byte
abbrev pub outcome_by : ℕ → System → System → Outcome
outcome_by n accepted x = record { refusal = n; after = when eqb n 0 then accepted else x }
