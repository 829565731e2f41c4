-- `supervisor::draining::drain`: the written bytes lie in memory and fit the buffer (DrainingLaws.antt).
use lib.ListN.{length}
use Rattle.std.proofs.Common.{◌∙◌, arith, eq-eqb, rules}
use Rattle.common.specs.Choice.{when◌then◌else◌}
use Rattle.slices.specs.SliceLaws.{copied_none}
use Rattle.supervisor.specs.Calls.{drained_count}
use Rattle.supervisor.specs.Calls as calls
use Rattle.supervisor.proofs.ChangeLaws.{drain_accepted}
use Rattle.supervisor.specs.Draining.{drain_patch}
use Rattle.table.specs.CheckLaws.{passed_with}
use Rattle.table.specs.Table.{slot_at}
use Rattle.supervisor.proofs.LoadedSlotLaws.{loaded_end}
use Rattle.supervisor.proofs.DrainingLaws.{drained_buffer_law, refused_drain}
use Rattle.supervisor.specs.CallLaws.{accepted_outcome}
use Rattle.supervisor.specs.CallDefinitions.{patch_definitions}
use Rattle.system.specs.System.{system}
use Rattle.supervisor.proofs.draining.drain.Goals as goal

pub returns-in_err-map_err : goal.returns-in_err-map_err
returns-in_err-map_err c = let start = c.args in
    let (memory, count, buffer) = refused_drain (system start.table start.memory.now) start.slot start.buffer.now c.check_drain.result _ _ _ c.check_drain.ensures
    c.map_err.ensures.cases c.in_err-map_err.was c.from_residual.ensures.1 (λ q y p. search rules) in
    record { memory_value = memory; count_value = count; buffer_after = buffer }

pub offset_bounds-table-slot : goal.offset_bounds-table-slot
offset_bounds-table-slot c = let start = c.args in
    let passed = passed_with c.check_drain.result _ _ c.map_err.ensures.variant c.in_ok-map_err.was in
    omega (arith, (drain_accepted _ start.slot (length start.buffer.now) c.check_drain.ensures passed).0.holds.slot)

pub bounds-table-slot : goal.bounds-table-slot
bounds-table-slot c = let start = c.args in
    let passed = passed_with c.check_drain.result _ _ c.map_err.ensures.variant c.in_ok-map_err.was in
    (drain_accepted _ start.slot (length start.buffer.now) c.check_drain.ensures passed).0.holds.slot

pub output_location-location-requires : goal.output_location-location-requires
unfolding slot_at
output_location-location-requires c = let start = c.args in
    let passed = passed_with c.check_drain.result _ _ c.map_err.ensures.variant c.in_ok-map_err.was in
    loaded_end start.table start.slot (drain_accepted _ start.slot (length start.buffer.now) c.check_drain.ensures passed).0.holds

pub returns : goal.returns
unfolding patch_definitions drain_patch drained_count when◌then◌else◌
returns c = let start = c.args in
    let passed = passed_with c.check_drain.result _ _ c.map_err.ensures.variant c.in_ok-map_err.was in
    record {
      memory_value = accepted_outcome (calls.change start.slot (calls.drain (length start.buffer.now))) _ _ _ c.check_drain.ensures passed (rw (c.with_slot-table.ensures, c.drained_state-state.ensures, copied_none));
      count_value = rw (← c.check_drain.ensures, eq-eqb _ _ passed);
      buffer_after = c.copy.ensures ∙ rw (c.part.ensures, c.output_location-location.ensures) (drained_buffer_law _ start.slot start.buffer.now c.check_drain.ensures passed);
    }
