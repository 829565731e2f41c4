-- Definitions that must be believed: a table as 388 bytes. Numbers of two and of four bytes have the high byte first.
--
--   0  the memory's length (four bytes)
--   4  how many bytes are free (four bytes)
--   8  the length of the widest free extent (four bytes)
--  12  eight slots of 47 bytes each, slot k at 12 + 47 k; in a slot
--        0  base (four bytes)
--        4  window
--        6  input
--        8  output
--       10  locked
--       12  quantum (one byte)
--       13  the state (StateEncoding)
use Rattle.std.specs.Prelude.{List, [], ◌∷◌, ◌++◌, map, ℕ, ◌+◌, ◌*◌, eqb, get_or, drop, length}
use Rattle.common.specs.Choice.{when◌then◌else◌}
use Rattle.slices.specs.Numbers.{u16_bytes, u32_bytes, u16_at, u32_at}
use Rattle.slices.specs.Slices.{part_of, concat, tabulate}
use Rattle.table.specs.declared.table.Partition.{Partition}
use Rattle.table.specs.declared.table.Slot.{Slot}
use Rattle.table.specs.declared.table.Table.{Table}
use Rattle.encoding.specs.StateEncoding.{state_length, state_bytes, state_from_bytes}

-- ---- how many bytes a partition, a slot and a table have, and where the slots stand

abbrev pub partition_length : ℕ
partition_length = 13

abbrev pub slot_length : ℕ
slot_length = partition_length + state_length

abbrev pub slots_offset : ℕ
slots_offset = 12

abbrev pub table_length : ℕ
table_length = slots_offset + 8 * slot_length

-- ---- from a table to its bytes

unfoldable pub partition_bytes : Partition → List ℕ
partition_bytes p =
    concat (
    u32_bytes p.base.0
    ∷ u16_bytes p.layout.window
    ∷ u16_bytes p.layout.input
    ∷ u16_bytes p.layout.output
    ∷ u16_bytes p.layout.locked
    ∷ (p.quantum ∷ [])
    ∷ []
    )

unfoldable pub slot_bytes : Slot → List ℕ
slot_bytes s = partition_bytes s.partition ++ state_bytes s.state

-- the three numbers before the slots
unfoldable pub head_bytes : Table → List ℕ
head_bytes t = concat (u32_bytes t.size ∷ u32_bytes t.free ∷ u32_bytes t.widest ∷ [])

unfoldable pub table_bytes : Table → List ℕ
table_bytes t = head_bytes t ++ concat (map slot_bytes t.slots)

-- a buffer of a table's length with a table stored in it; one of another length is left
unfoldable pub stored_table : List ℕ → Table → List ℕ
stored_table buffer t = when eqb (length buffer) table_length then table_bytes t else buffer

-- ---- from bytes to the table that they hold

unfoldable pub partition_from_bytes : List ℕ → Partition
partition_from_bytes bytes =
    record {
      base = record { 0 = u32_at bytes 0 };
      layout = record { window = u16_at bytes 4; input = u16_at bytes 6; output = u16_at bytes 8; locked = u16_at bytes 10 };
      quantum = get_or bytes 12 0;
    }

unfoldable pub slot_from_bytes : List ℕ → Slot
slot_from_bytes bytes = record { partition = partition_from_bytes bytes; state = state_from_bytes (drop partition_length bytes) }

-- the eight slots
abbrev pub slots_from_bytes : List ℕ → List Slot
slots_from_bytes bytes = tabulate 8 (λ k. slot_from_bytes (part_of bytes (slots_offset + slot_length * k) slot_length))

unfoldable pub table_from_bytes : List ℕ → Table
table_from_bytes bytes = record { size = u32_at bytes 0; free = u32_at bytes 4; widest = u32_at bytes 8; slots = slots_from_bytes bytes }
