-- `scripts::run_all`: each iteration passes an entry.
use Rattle.std.proofs.Common.{length}
use Rattle.scripts.proofs.run_all.Given as goal

abbrev pub decreases-loop-left : goal.decreases-loop-left
decreases-loop-left g l = length l.left
