-- `slices::numbers::put_u16s`: each iteration puts one number behind the last (PieceLaws.antt).
use Rattle.slices.specs.Numbers.{u16_bytes}
use Rattle.slices.specs.PieceLaws.{PiecesPut}
use Rattle.slices.proofs.numbers.put_u16s.Given as goal

abbrev pub invariant-loop-i : goal.invariant-loop-i
invariant-loop-i l = PiecesPut u16_bytes 2 l.numbers l.initial.target l.at l.i l.target
