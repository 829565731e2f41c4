-- Definitions that must be believed: the bytes of a table as some version kept them, and the same table in today's form. Hosts keep tables
-- for years, and a request that stores more in a table gives it another length.
use Rattle.std.specs.Prelude.{Bool, ◌&&◌, not, List, [], ◌∷◌, ℕ, ◌+◌, ◌*◌, eqb, leb, length, take, drop}
use Rattle.common.specs.Choice.{when◌then◌else◌}
use Rattle.common.specs.Refusals.{◌gives◌, unless}
use Rattle.common.specs.Tests.{all_below}
use Rattle.encoding.specs.TableEncoding.{slots_offset, table_length, slot_from_bytes, table_from_bytes}
use Rattle.slices.specs.Numbers.{u16_bytes, u32_at}
use Rattle.slices.specs.Slices.{concat, part_of, tabulate}
use Rattle.table.specs.FreeBytes.{counted}
use Rattle.table.specs.Table.{answer}
use Rattle.table.specs.Sound.{slots_sound, table_sound}
use Rattle.table.specs.Table.{slot_at}
use Rattle.table.specs.Table.{Answer}
use Rattle.table.specs.declared.table.Slot.{Slot}
use Rattle.table.specs.declared.table.Table.{Table}

-- ---- before document 02's U6

-- a slot had 45 bytes: today's without the lock, which stands at 10
abbrev pub unlocked_slot_length : ℕ
unlocked_slot_length = 45

abbrev pub lock_offset : ℕ
lock_offset = 10

-- such a slot's bytes in today's form: nothing is locked
abbrev pub with_no_lock : List ℕ → List ℕ
with_no_lock bytes = concat (take lock_offset bytes ∷ u16_bytes 0 ∷ drop lock_offset bytes ∷ [])

-- the eight such slots whose bytes start at an offset
abbrev pub unlocked_slots_from_bytes : ℕ → List ℕ → List Slot
unlocked_slots_from_bytes at bytes = tabulate 8 (λ k. slot_from_bytes (with_no_lock (part_of bytes (at + unlocked_slot_length * k) unlocked_slot_length)))

-- a table had 372 bytes: three numbers as today, and such slots
abbrev pub unlocked_table_length : ℕ
unlocked_table_length = 372

unfoldable pub unlocked_table_from_bytes : List ℕ → Table
unlocked_table_from_bytes bytes = record { size = u32_at bytes 0; free = u32_at bytes 4; widest = u32_at bytes 8; slots = unlocked_slots_from_bytes slots_offset bytes }

-- the last status was 7: each slot's is at most that
abbrev pub last_unlocked_status : ℕ
last_unlocked_status = 7

unfoldable pub statuses_up_to : ℕ → Table → Bool
statuses_up_to n t = all_below 8 (λ k. leb (slot_at t k).state.status n)

-- ---- before U5

-- a table had 364 bytes: the memory's length, and such slots behind it
abbrev pub uncounted_table_length : ℕ
uncounted_table_length = 364

abbrev pub uncounted_slots_offset : ℕ
uncounted_slots_offset = 4

-- the table that such bytes hold: they lack the two numbers of the free bytes, so both are 0
unfoldable pub uncounted_table_from_bytes : List ℕ → Table
uncounted_table_from_bytes bytes = record { size = u32_at bytes 0; free = 0; widest = 0; slots = unlocked_slots_from_bytes uncounted_slots_offset bytes }

-- ---- some version's table

-- the table that bytes of some version hold. Their length tells the version; any other length is read as today's
unfoldable pub held_table : List ℕ → Table
held_table old =
    when eqb (length old) uncounted_table_length then uncounted_table_from_bytes old
    else (when eqb (length old) unlocked_table_length then unlocked_table_from_bytes old else table_from_bytes old)

-- the length is some version's, and the table is sound by the rules of that version. Before U6 no status was above 7; before U5 there were
-- only the rules of the slots
unfoldable pub held_table_sound : List ℕ → Bool
held_table_sound old =
    when eqb (length old) uncounted_table_length then statuses_up_to last_unlocked_status (held_table old) && slots_sound (held_table old)
    else (when eqb (length old) unlocked_table_length then statuses_up_to last_unlocked_status (held_table old) && table_sound (held_table old)
    else eqb (length old) table_length && table_sound (held_table old))

-- that table in today's form: its free bytes are counted. It is refused by 1 if it is not sound
unfoldable pub upgrade_of : List ℕ → Answer
upgrade_of old = unless (λ n. answer n (held_table old)) (not (held_table_sound old) gives 1 ∷ []) (answer 0 (counted (held_table old)))
