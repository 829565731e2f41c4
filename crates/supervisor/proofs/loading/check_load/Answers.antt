-- `supervisor::loading::check_load`: the conditions come in the order slot, file, location (LoadingLaws.antt).
use Rattle.std.proofs.Common.{◌∙◌}
use Rattle.supervisor.proofs.LoadingLaws.{load_stops, load_refused, load_places}
use Rattle.system.specs.System.{system}
use Rattle.table.specs.CheckLaws.{handed_on}
use Rattle.supervisor.proofs.loading.check_load.Goals as goal

pub returns-in_err-check_system_empty_slot-clause-refusal : goal.returns-in_err-check_system_empty_slot-clause-refusal
returns-in_err-check_system_empty_slot-clause-refusal c = let start = c.args in
    load_stops (system start.table start.memory.now) start.slot start.location start.file.now _ _ c.in_err-check_system_empty_slot.ensures c.from_residual.ensures.1

pub returns-in_err-parameters-clause-refusal : goal.returns-in_err-parameters-clause-refusal
returns-in_err-parameters-clause-refusal c = let start = c.args in
    handed_on _ _ c.from_residual-in_err-parameters.ensures.1
    ∙ load_refused (system start.table start.memory.now) start.slot start.location start.file.now c.in_ok-check_system_empty_slot.ensures _ c.in_err-parameters.ensures

pub returns-in_err-check_location-clause-refusal : goal.returns-in_err-check_location-clause-refusal
returns-in_err-check_location-clause-refusal c = let start = c.args in
    handed_on _ _ c.from_residual-in_err-check_location.ensures.1
    ∙ load_places (system start.table start.memory.now) start.slot start.location start.file.now c.in_ok-check_system_empty_slot.ensures _ c.in_ok-parameters.ensures
    (c.in_err-check_location.ensures ∙ rw c.partition_for.ensures)

pub returns-clause-refusal : goal.returns-clause-refusal
returns-clause-refusal c = let start = c.args in
    load_places (system start.table start.memory.now) start.slot start.location start.file.now c.in_ok-check_system_empty_slot.ensures _ c.in_ok-parameters.ensures
    (c.in_ok-check_location.ensures ∙ rw c.partition_for.ensures)
