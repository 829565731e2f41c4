-- `slices::slices::copy`: each iteration stores one byte of the source (StoreLaws.antt).
use native.Mathlib.Omega.{arith}
use Rattle.slices.proofs.StoreLaws.{stored_more}
use Rattle.slices.proofs.slices.copy.Goals as goal

pub loop-i-preserved : goal.loop-i-preserved
loop-i-preserved c = let a = c.args in
    stored_more a.target.now a.at a.source.now c.loop-i.i _ c.loop-i.invariant (omega arith) c.loop-i-test.true
