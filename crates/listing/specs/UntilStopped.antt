-- Definitions that must be believed: the rounds of the bench run (document 01, "The bench run").
use Rattle.std.specs.Prelude.{ℕ, zero, suc, eqb}
use Rattle.common.specs.Choice.{when◌then◌else◌}
use Rattle.supervisor.specs.Calls.{run, after_call}
use Rattle.system.specs.System.{System, slot_of}

-- single rounds until the status is not 1 or n are made
unfoldable pub until_stopped : ℕ → System → System
until_stopped zero x = x
until_stopped (suc n) x = when eqb (slot_of x 0).state.status 1 then until_stopped n (after_call (run 1) x) else x
