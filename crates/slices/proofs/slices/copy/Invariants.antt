-- `slices::slices::copy`: each iteration stores one byte of the source (StoreLaws.antt).
use Rattle.slices.proofs.StoreLaws.{Stored}
use Rattle.slices.proofs.slices.copy.Given as goal

abbrev pub invariant-loop-i : goal.invariant-loop-i
invariant-loop-i l = Stored l.initial.target l.at l.source l.i l.target
