-- `vectors::compare_all`: safe and ends: each iteration passes an entry.
use Rattle.std.proofs.Common.{length}
use Rattle.vectors.proofs.compare_all.Given as goal

abbrev pub decreases-loop-entries : goal.decreases-loop-entries
decreases-loop-entries g l = length l.entries
