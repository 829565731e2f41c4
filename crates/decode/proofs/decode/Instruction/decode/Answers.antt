-- `decode::decode::Instruction::decode`: two classes that the search does not find. The last one is what no other arm took.
use Rattle.std.proofs.Common.{◌≡◌, ◌/◌, arith}
use Rattle.decode.specs.Decode.{decode_of}
use Rattle.decode.proofs.decode.Instruction.decode.Goals as goal

pub returns-in-2 : goal.returns-in-2
unfolding decode_of
returns-in-2 c = rw c.in-2.is

pub returns-in_default : goal.returns-in_default
unfolding decode_of
returns-in_default c = let h : c.args.op / 4 ≡ 63 = omega arith in rw h
