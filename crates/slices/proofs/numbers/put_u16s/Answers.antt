-- `slices::numbers::put_u16s`: each iteration puts one number behind the last (PieceLaws.antt).
use mathlib.Core.Path.{refl}
use native.Mathlib.Omega.{arith}
use Rattle.slices.specs.Numbers.{u16_bytes}
use Rattle.slices.specs.PieceLaws.{pieces_none, pieces_more, pieces_all}
use Rattle.slices.proofs.numbers.put_u16s.Goals as goal

pub loop-i-init : goal.loop-i-init
loop-i-init c = let a = c.args in
    pieces_none u16_bytes 2 a.numbers.now a.target.now a.at

pub loop-i-preserved : goal.loop-i-preserved
loop-i-preserved c = let a = c.args in
    pieces_more u16_bytes 2 a.numbers.now a.target.now a.at c.loop-i.i _ c.loop-i.invariant 0 _ c.loop-i-test.true refl (omega arith) c.put_u16.ensures

pub returns : goal.returns
returns c = let a = c.args in
    pieces_all u16_bytes 2 a.numbers.now a.target.now a.at c.loop-i.i _ c.loop-i.invariant (omega arith)
