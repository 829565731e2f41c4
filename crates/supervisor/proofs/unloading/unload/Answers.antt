-- `supervisor::unloading::unload`: an accepted call names one of the eight slots (ConditionLaws.antt).
use Rattle.std.proofs.Common.{sym, ◌∙◌, arith, rules}
use Rattle.supervisor.specs.Calls.{change_conditions, refusal}
use Rattle.supervisor.specs.Calls as calls
use Rattle.supervisor.proofs.ChangeLaws.{change_slots}
use Rattle.system.specs.ConditionLaws.{refusal_ready}
use Rattle.system.specs.System.{system}
use Rattle.supervisor.specs.Unloading.{unload_patch}
use Rattle.supervisor.specs.CallLaws.{refused_call, accepted_outcome, counted_patch}
use Rattle.supervisor.specs.CallDefinitions.{patch_definitions}
use Rattle.table.specs.CheckLaws.{passed_with}
use Rattle.supervisor.proofs.unloading.unload.Goals as goal

pub returns-in_err-map_err : goal.returns-in_err-map_err
unfolding refusal change_conditions
returns-in_err-map_err c = let start = c.args in
    refused_call (calls.change start.slot calls.unload) (system start.table start.memory.now) c.check_system_loaded_slot.result _ _ _ c.check_system_loaded_slot.ensures
    c.map_err.ensures.cases c.in_err-map_err.was c.from_residual.ensures.1 (λ q y p. search rules)

pub offset_bounds-table-slot : goal.offset_bounds-table-slot
offset_bounds-table-slot c = let passed = passed_with c.check_system_loaded_slot.result _ _ c.map_err.ensures.variant c.in_ok-map_err.was in
    omega (arith, (refusal_ready _ c.args.slot c.check_system_loaded_slot.ensures passed).holds.slot)

pub bounds-table-slot : goal.bounds-table-slot
bounds-table-slot c = let passed = passed_with c.check_system_loaded_slot.result _ _ c.map_err.ensures.variant c.in_ok-map_err.was in
    (refusal_ready _ c.args.slot c.check_system_loaded_slot.ensures passed).holds.slot

pub returns : goal.returns
unfolding patch_definitions refusal change_conditions unload_patch
returns c = let passed = passed_with c.check_system_loaded_slot.result _ _ c.map_err.ensures.variant c.in_ok-map_err.was in
    let ready = refusal_ready _ c.args.slot c.check_system_loaded_slot.ensures passed in
    accepted_outcome (calls.change c.args.slot calls.unload) _ _ _ c.check_system_loaded_slot.ensures passed
    (counted_patch _ _ _ _ c.count_free.ensures (rw (c.with_slot.ensures, c.empty.ensures, c.fill.ensures, c.size.ensures))
    (change_slots _ ready.system c.args.slot calls.unload (sym c.check_system_loaded_slot.ensures ∙ passed)))
