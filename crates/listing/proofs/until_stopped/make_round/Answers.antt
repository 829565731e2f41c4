use mathlib.Core.Path.{ap, ◌∙◌}
use Rattle.system.specs.System.{Outcome}
use Rattle.supervisor.specs.Calls.{outcome_of}
use Rattle.supervisor.specs.CallLaws.{run_outcome}
use Rattle.listing.proofs.until_stopped.make_round.Goals as goal

pub returns-in-Ok : goal.returns-in-Ok
unfolding outcome_of
returns-in-Ok c = ap (λ (o : Outcome). o.after) (c.in-Ok.ensures ∙ run_outcome _ _)

pub returns-in-Err : goal.returns-in-Err
unfolding outcome_of
returns-in-Err c = ap (λ (o : Outcome). o.after) (c.in-Err.ensures ∙ run_outcome _ _)
