-- `supervisor::draining::check_drain`: the conditions of a taken slot first, then its own.
use Rattle.std.proofs.Common.{refl, arith, lt-ltb, le-ltb}
use Rattle.common.specs.ConditionDefinitions.{condition_definitions}
use Rattle.supervisor.specs.Calls.{change_conditions, refusal}
use Rattle.supervisor.specs.Draining.{drain_conditions}
use Rattle.system.specs.ConditionLaws.{ready_numbered, refusal_ready}
use Rattle.table.specs.CheckLaws.{front_refuses, front_passes}
use Rattle.table.specs.Table.{slot_at}
use Rattle.supervisor.proofs.draining.check_drain.Goals as goal

pub returns-in_err-check_system_loaded_slot : goal.returns-in_err-check_system_loaded_slot
unfolding refusal change_conditions
returns-in_err-check_system_loaded_slot c = front_refuses _ _ (ready_numbered _ c.args.slot) _ _ c.in_err-check_system_loaded_slot.ensures c.from_residual.ensures.1

pub offset_bounds-table-slot : goal.offset_bounds-table-slot
offset_bounds-table-slot c = omega (arith, (refusal_ready _ c.args.slot c.in_ok-check_system_loaded_slot.ensures refl).holds.slot)

pub bounds-table-slot : goal.bounds-table-slot
bounds-table-slot c = (refusal_ready _ c.args.slot c.in_ok-check_system_loaded_slot.ensures refl).holds.slot

pub returns-then-room-table : goal.returns-then-room-table
unfolding condition_definitions refusal change_conditions drain_conditions slot_at
returns-then-room-table c = front_passes _ _ (ready_numbered _ c.args.slot) c.in_ok-check_system_loaded_slot.ensures (rw (lt-ltb _ _ c.if-room-table.true))

pub returns : goal.returns
unfolding condition_definitions refusal change_conditions drain_conditions slot_at
returns c = front_passes _ _ (ready_numbered _ c.args.slot) c.in_ok-check_system_loaded_slot.ensures (rw (le-ltb _ _ c.if-room-table.false))
