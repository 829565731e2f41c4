-- Definitions that must be believed: slots, partitions, which bytes are in one, and a new table (document 01, "Floor and bays").
use Rattle.std.specs.Prelude.{◌+◌, ◌<◌, ℕ, eqb, leb, ltb, get_or, length, replicate, set, Bool, ◌&&◌, false, not, [], ◌∷◌, ◌≡◌, Result, Ok, Err}
use Rattle.common.specs.Choice.{when◌then◌else◌}
use Rattle.common.specs.Layout.{layout_size}
use Rattle.common.specs.Ranges.{is_one_to}
use Rattle.common.specs.Refusals.{◌gives◌, refusal_by, refusal_number}
use Rattle.registers.specs.Cpu.{fresh_cpu}
use Rattle.registers.specs.State.{empty_state}
use Rattle.registers.specs.declared.state.State.{State}
use Rattle.table.specs.declared.table.Partition.{Partition}
use Rattle.table.specs.declared.table.RefusedCall.{RefusedCall}
use Rattle.table.specs.declared.table.Slot.{Slot}
use Rattle.table.specs.declared.table.Table.{Table}

-- the partition of an empty slot: no bytes, at 0
abbrev pub empty_partition : Partition
empty_partition = record { base = record { 0 = 0 }; layout = record { window = 0; input = 0; output = 0; locked = 0 }; quantum = 0 }

-- what stands past the end of a table's slots: never met, since there are eight
abbrev pub no_slot : Slot
no_slot = record { partition = empty_partition; state = empty_state (record { counter = 0; registers = []; psu = 0; psl = 0; returns = [] }) }

-- the slot of that number, and the table with another one there
unfoldable pub slot_at : Table → ℕ → Slot
slot_at t k = get_or t.slots k no_slot

unfoldable pub with_slot : Table → ℕ → Slot → Table
with_slot t k s = record { size = t.size; free = t.free; widest = t.widest; slots = set t.slots k s }

-- the table with other numbers of its free bytes
abbrev pub with_free_bytes : Table → (free widest : ℕ) → Table
with_free_bytes t free widest = record { size = t.size; free = free; widest = widest; slots = t.slots }

-- the slot with another state in it
abbrev pub slot_with_state : Slot → State → Slot
slot_with_state s z = record { partition = s.partition; state = z }

-- status is 0 exactly if the slot is empty
abbrev pub is_empty : Slot → Bool
is_empty s = eqb s.state.status 0

-- slot k holds a pattern
abbrev pub is_loaded : Table → ℕ → Bool
is_loaded t k = not (is_empty (slot_at t k))

-- the location behind the last byte of a partition
abbrev pub partition_end : Partition → ℕ
partition_end p = p.base.0 + layout_size p.layout

-- byte i lies in the partition of the slot
unfoldable pub is_in_partition : Slot → ℕ → Bool
is_in_partition s i = not (is_empty s) && leb s.partition.base.0 i && ltb i (partition_end s.partition)

-- byte i lies in the partition of no slot
unfoldable pub InNoPartition : ℕ → Table → Type 0
InNoPartition i t = (k : ℕ) → k < 8 → is_in_partition (slot_at t k) i ≡ false

-- ---- what a call answers

-- a refusal, 0 for none, and a table
pub record Answer : Type 0 where
  pub refusal : ℕ
  pub table : Table

abbrev pub answer : ℕ → Table → Answer
answer n t = record { refusal = n; table = t }

-- and so the code's: an accepted call answers the table that it leaves, a refused one why, with the table that it was given
abbrev pub answer_in : Result Table RefusedCall → Answer
answer_in (Ok t) = answer 0 t
answer_in (Err r) = answer (refusal_number r.refusal) r.table

-- ---- a new table

-- an empty slot is all zero
unfoldable pub empty_slot : Slot
empty_slot = record { partition = empty_partition; state = empty_state (fresh_cpu (record { 0 = 0 })) }

-- a table of eight empty slots, for a memory of that length: all of it is free, and one extent (document 02, U5)
abbrev pub empty_table : ℕ → Table
empty_table size = record { size = size; free = size; widest = size; slots = replicate 8 empty_slot }

-- the number that refuses a new table, 0 for none
unfoldable pub new_refusal : ℕ → ℕ
new_refusal length = refusal_by (not (is_one_to length 65536) gives 2 ∷ [])

-- document 01's fresh record: all slots empty; a refused one is all zero
unfoldable pub new_table : ℕ → Table
new_table length = empty_table (when eqb (new_refusal length) 0 then length else 0)
