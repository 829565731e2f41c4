-- `filling::read_full`: a read gives the next bytes, and they stand next.
use Rattle.std.proofs.Common.{length, rules, subst, sym, ◌-◌}
use Rattle.std.specs.Io.KnownBytes.{Consumes}
use Rattle.std.proofs.KnownBytes.{Consumes-trans}
use Rattle.filling.proofs.Filling.{take-put_mid-more}
use Rattle.filling.proofs.read_full.Goals as goal

pub loop-filled-preserved : goal.loop-filled-preserved
loop-filled-preserved g c =
    let f = c.loop-filled.filled in
    let xs = c.loop-filled.buffer in
    let n = c.in_ok-n.n in
    let before = c.loop-filled.invariant in
    let read = c.in_ok-n.ensures in
    let more = take-put_mid-more f (length xs - f) n xs c.read_again.new.buffer before.0 read.bound.0 in
    (search rules, search rules, subst (Consumes _ _) (sym more) (Consumes-trans _ _ _ _ _ before.2 read.bytes))
