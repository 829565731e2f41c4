-- Names for lists of definitions, which laws and worked cases open together. Nothing here has to be believed.
use Rattle.common.specs.Choice.{when◌then◌else◌}
use Rattle.common.specs.ConditionDefinitions.{condition_definitions}
use Rattle.common.specs.Repetition.{times}
use Rattle.registers.specs.Cpu.{fresh_cpu}
use Rattle.loader.specs.Fresh.{fresh_state}
use Rattle.slices.specs.Slices.{copied}
use Rattle.queries.specs.Queries.{query_conditions}
use Rattle.supervisor.specs.Calls.{after_accepted, after_call, counted_after, change_conditions, drained_buffer, drained_count, outcome_of, patch_of, refusal}
use Rattle.table.specs.TableConditions.{empty_slot_conditions, loaded_slot_conditions, table_conditions}
use Rattle.system.specs.Conditions.{system_conditions}
use Rattle.supervisor.specs.Draining.{drain_conditions, drain_patch, drained_state}
use Rattle.supervisor.specs.Feeding.{fed_state, feed_conditions, feed_patch}
use Rattle.supervisor.specs.Loading.{file_conditions, load_patch, partition_for, location_conditions}
use Rattle.system.specs.Running.{after_run, slot_quanta, slot_quantum}
use Rattle.system.specs.System.{machine_in, patched}
use Rattle.table.specs.Table.{empty_slot, slot_at, with_slot}
use Rattle.supervisor.specs.Unloading.{unload_patch}

-- what refuses a call
unfoldable pub refusal_definitions : Type 0
unfolding condition_definitions refusal change_conditions query_conditions table_conditions system_conditions empty_slot_conditions loaded_slot_conditions file_conditions location_conditions feed_conditions drain_conditions
refusal_definitions = Unit {0}

-- an accepted change at a slot, as a patch of it
unfoldable pub change_definitions : Type 0
unfolding patch_of load_patch unload_patch feed_patch drain_patch partition_for empty_slot fresh_state fresh_cpu fed_state drained_state
change_definitions = Unit {0}

-- the patch of an accepted change, carried out
unfoldable pub patch_definitions : Type 0
unfolding after_accepted counted_after patch_of patched with_slot slot_at
patch_definitions = Unit {0}

-- what a drain answers and leaves
unfoldable pub drain_definitions : Type 0
unfolding patch_definitions outcome_of after_call drain_patch drained_count drained_buffer when◌then◌else◌
drain_definitions = Unit {0}

-- a run of rounds
unfoldable pub run_definitions : Type 0
unfolding patched with_slot slot_at copied machine_in slot_quantum slot_quanta after_run times
run_definitions = Unit {0}
