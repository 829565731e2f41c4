-- `vectors::packing::unpack`: safe and ends: each iteration passes at least the head of a piece.
use Rattle.std.proofs.Common.{length}
use Rattle.vectors.proofs.packing.unpack.Given as goal

abbrev pub decreases-loop-pieces : goal.decreases-loop-pieces
decreases-loop-pieces l = length l.pieces
