-- `system::running::run`: what the check refuses, and a run of what it passes.
use Rattle.std.proofs.Common.{rules}
use Rattle.common.specs.Refusals.{refusal_by}
use Rattle.system.specs.Conditions.{system_conditions}
use Rattle.system.specs.OutcomeLaws.{refused_answer, accepted_by}
use Rattle.system.specs.Running.{after_run, run_outcome_of}
use Rattle.system.specs.System.{System, system}
use Rattle.system.proofs.RunningLaws.{run_refusal_sound}
use Rattle.table.specs.CheckLaws.{passed_with}
use Rattle.system.proofs.running.run.Goals as goal

pub returns-in_err-map_err : goal.returns-in_err-map_err
unfolding run_outcome_of
returns-in_err-map_err c = let x : System = system c.args.table c.args.memory.now in
    refused_answer (refusal_by (system_conditions x)) (after_run c.args.rounds x) x c.check_system.result _ _ _ c.check_system.ensures
    c.map_err.ensures.cases c.in_err-map_err.was c.from_residual.ensures.1 (λ q y p. search rules)

pub run_rounds-requires : goal.run_rounds-requires
run_rounds-requires c = let passed = passed_with c.check_system.result _ _ c.map_err.ensures.variant c.in_ok-map_err.was in
    let h = run_refusal_sound _ c.check_system.ensures passed in
    record { table_value = h.0; memory_len = h.1 }

pub returns : goal.returns
unfolding run_outcome_of
returns c = let x : System = system c.args.table c.args.memory.now in
    let passed = passed_with c.check_system.result _ _ c.map_err.ensures.variant c.in_ok-map_err.was in
    accepted_by (refusal_by (system_conditions x)) (after_run c.args.rounds x) x _ _ c.check_system.ensures passed c.run_rounds.ensures
