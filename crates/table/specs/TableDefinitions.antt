-- Names for lists of definitions, which laws and worked cases open together. Nothing here has to be believed.
use Rattle.common.specs.Layout.{layout_sound}
use Rattle.common.specs.Tests.{and_all, all_below}
use Rattle.registers.specs.Cpu.{fresh_cpu}
use Rattle.table.specs.Extents.{each_without, extent_between, widest_of, without_partition, without_slots_below}
use Rattle.table.specs.FreeBytes.{is_counted}
use Rattle.table.specs.Sound.{all_fifteen_bits, all_zero, are_apart, is_clear_of_others, partition_sound, slot_sound, slots_sound, state_sound, table_sound, is_zero_partition, is_zero_state}
use Rattle.table.specs.Table.{empty_slot, slot_at}

-- the free extents, and the widest of them
unfoldable pub extent_definitions : Type 0
unfolding without_slots_below each_without without_partition extent_between widest_of slot_at
extent_definitions = Unit {0}

-- which tables are sound, and an empty slot
unfoldable pub sound_definitions : Type 0
unfolding extent_definitions table_sound slots_sound is_counted slot_sound partition_sound state_sound is_zero_partition is_zero_state all_zero all_fifteen_bits is_clear_of_others are_apart slot_at layout_sound and_all all_below empty_slot fresh_cpu
sound_definitions = Unit {0}
