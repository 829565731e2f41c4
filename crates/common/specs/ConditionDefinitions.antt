-- Names for lists of definitions: `unfolding condition_definitions` opens the rule that the first condition that holds refuses. Nothing
-- here has to be believed.
use Rattle.common.specs.Choice.{when◌then◌else◌}
use Rattle.common.specs.Refusals.{unless, refusal_by}

unfoldable pub condition_definitions : Type 0
unfolding refusal_by unless when◌then◌else◌
condition_definitions = Unit {0}
