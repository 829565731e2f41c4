-- Definitions that must be believed: a stopped machine runs again (document 01, "Floor and bays": feed and collect).
use Rattle.std.specs.Prelude.{ℕ, eqb}
use Rattle.common.specs.Choice.{when◌then◌else◌}

-- a machine that stopped for that reason runs again
unfoldable pub resumed_status : ℕ → ℕ → ℕ
resumed_status reason status = when eqb status reason then 1 else status
