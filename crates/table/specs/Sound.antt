-- Definitions that must be believed: which tables are sound (document 01, "Floor and bays"; document 02, U5 and U6).
use Rattle.std.specs.Prelude.{ℕ, eqb, leb, ltb, get_or, length, Bool, ◌&&◌, ◌||◌, not, List, [], ◌∷◌}
use Rattle.common.specs.Layout.{layout_sound}
use Rattle.common.specs.Ranges.{is_one_to}
use Rattle.common.specs.Tests.{all, all_below}
use Rattle.registers.specs.Cpu.{stored_psu}
use Rattle.registers.specs.State.{last_status}
use Rattle.table.specs.FreeBytes.{is_counted}
use Rattle.table.specs.Table.{partition_end, slot_at}
use Rattle.common.specs.declared.layout.Layout.{Layout}
use Rattle.registers.specs.declared.state.State.{State}
use Rattle.table.specs.declared.table.Partition.{Partition}
use Rattle.table.specs.declared.table.Slot.{Slot}
use Rattle.table.specs.declared.table.Table.{Table}

-- two partitions that do not meet; an empty slot's meets none
unfoldable pub are_apart : Partition → Partition → Bool
are_apart p q = leb (partition_end p) q.base.0 || leb (partition_end q) p.base.0

-- a partition in range, inside a memory of that size
unfoldable pub partition_sound : ℕ → Partition → Bool
partition_sound size p = all (layout_sound p.layout ∷ is_one_to p.quantum 255 ∷ leb (partition_end p) size ∷ [])

-- return addresses of fifteen bits; a list of zeros
unfoldable pub all_fifteen_bits : List ℕ → Bool
all_fifteen_bits l = all_below (length l) (λ i. ltb (get_or l i 0) 32768)

unfoldable pub all_zero : List ℕ → Bool
all_zero l = all_below (length l) (λ i. eqb (get_or l i 0) 0)

-- what runs in a partition: a status from 1 to the last; counter and return addresses below 32,768; PSU stored with bits 7, 4 and 3 zero; read at most
-- filled at most the input's capacity, written at most the output's; status 3 has nothing unread and status 4 a full output
unfoldable pub state_sound : Layout → State → Bool
state_sound l s =
    all
    (is_one_to s.status last_status
    ∷ ltb s.cpu.counter 32768
    ∷ all_fifteen_bits s.cpu.returns
    ∷ eqb (stored_psu s.cpu.psu) s.cpu.psu
    ∷ leb s.read s.filled
    ∷ leb s.filled l.input
    ∷ leb s.written l.output
    ∷ (not (eqb s.status 3) || eqb s.read s.filled)
    ∷ (not (eqb s.status 4) || eqb s.written l.output)
    ∷ [])

-- an empty slot is all zero
unfoldable pub is_zero_partition : Partition → Bool
is_zero_partition p =
    all
    (eqb p.base.0 0
    ∷ eqb p.layout.window 0
    ∷ eqb p.layout.input 0
    ∷ eqb p.layout.output 0
    ∷ eqb p.layout.locked 0
    ∷ eqb p.quantum 0
    ∷ [])

unfoldable pub is_zero_state : State → Bool
is_zero_state s =
    all
    (eqb s.status 0
    ∷ eqb s.filled 0
    ∷ eqb s.read 0
    ∷ eqb s.written 0
    ∷ eqb s.cpu.counter 0
    ∷ eqb s.cpu.psu 0
    ∷ eqb s.cpu.psl 0
    ∷ all_zero s.cpu.registers
    ∷ all_zero s.cpu.returns
    ∷ [])

-- empty, or a sound partition with a sound state
unfoldable pub slot_sound : ℕ → Slot → Bool
slot_sound size s =
    is_zero_partition s.partition && is_zero_state s.state
    || partition_sound size s.partition && state_sound s.partition.layout s.state

-- p meets the partition of no slot but one
unfoldable pub is_clear_of_others : Table → ℕ → Partition → Bool
is_clear_of_others t except p = all_below 8 (λ j. eqb j except || are_apart (slot_at t j).partition p)

-- the memory's length is 1 to 65,536; each of the eight slots is sound; the partitions are disjoint
unfoldable pub slots_sound : Table → Bool
slots_sound t =
    all
    (is_one_to t.size 65536
    ∷ eqb (length t.slots) 8
    ∷ all_below 8 (λ k. slot_sound t.size (slot_at t k))
    ∷ all_below 8 (λ k. is_clear_of_others t k (slot_at t k).partition)
    ∷ [])

-- a sound table: its slots are sound, and its two numbers are those of its free bytes
unfoldable pub table_sound : Table → Bool
table_sound t = slots_sound t && is_counted t
