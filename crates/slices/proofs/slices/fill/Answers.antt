-- `slices::slices::fill`: without room for n times the value the target is left.
use mathlib.Core.Path.{sym}
use native.Mathlib.Omega.{arith}
use lib.ListN.{replicate, length-replicate}
use Rattle.slices.specs.SliceLaws.{copied_left}
use Rattle.slices.proofs.slices.fill.Goals as goal

pub returns-then-target-at-2 : goal.returns-then-target-at-2
returns-then-target-at-2 c = let a = c.args in
    sym (copied_left a.target.now a.at (replicate a.n a.value) (omega (arith, length-replicate c.args.n c.args.value)))
