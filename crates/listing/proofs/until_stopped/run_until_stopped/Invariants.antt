use Prim.Native.Nat.{◌-◌}
use mathlib.Core.Path.{◌≡◌}
use Rattle.system.specs.System.{system}
use Rattle.listing.specs.UntilStopped.{until_stopped}
use Rattle.listing.proofs.until_stopped.run_until_stopped.Given as goal

abbrev pub invariant-loop-round : goal.invariant-loop-round
invariant-loop-round l = until_stopped (1000 - l._round) (system l.next l.memory) ≡ until_stopped 1000 (system l.initial.next l.initial.memory)
