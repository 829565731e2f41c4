-- `supervisor::loading::load`: what its check refuses, and the patch of an accepted load, with the free bytes counted.
use Rattle.std.proofs.Common.{sym, ◌∙◌, rules}
use Rattle.supervisor.specs.Calls.{after_accepted, counted_after, patch_of}
use Rattle.supervisor.specs.Calls as calls
use Rattle.supervisor.proofs.ChangeLaws.{change_slots, load_accepted}
use Rattle.system.specs.System.{system, patched}
use Rattle.supervisor.specs.Loading.{load_patch}
use Rattle.supervisor.specs.CallLaws.{refused_call, accepted_outcome, counted_patch}
use Rattle.table.specs.CheckLaws.{passed_with}
use Rattle.supervisor.proofs.loading.load.Goals as goal

pub returns-in_err-parameters : goal.returns-in_err-parameters
returns-in_err-parameters c = let start = c.args in
    refused_call (calls.change start.slot (calls.load start.location start.file.now)) (system start.table start.memory.now) c.check_load.result _ _ _ c.check_load.ensures.refusal
    c.map_err.ensures.cases c.in_err-parameters.was c.from_residual.ensures.1 (λ q y p. search rules)

pub returns : goal.returns
unfolding after_accepted counted_after patch_of
returns c = let start = c.args in
    let x = system start.table start.memory.now in
    let passed = passed_with c.check_load.result _ _ c.map_err.ensures.variant c.in_ok-parameters.was in
    let accepted = load_accepted x start.slot start.location start.file.now c.check_load.ensures.refusal passed in
    let slots = change_slots x accepted.system start.slot (calls.load start.location start.file.now) (sym c.check_load.ensures.refusal ∙ passed) in
    accepted_outcome (calls.change start.slot (calls.load start.location start.file.now)) x _ _ c.check_load.ensures.refusal passed
    (counted_patch (patched x start.slot (load_patch start.location start.file.now)) _ _ _ c.count_free.ensures c.load_slot-next.ensures slots)
