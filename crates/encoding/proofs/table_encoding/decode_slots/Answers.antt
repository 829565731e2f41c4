-- `encoding::table_encoding::decode_slots`: each iteration reads one slot.
use lib.ListN.{length-replicate}
use Rattle.slices.specs.PieceLaws.{tabulated_none, tabulated_next, tabulated_all}
use Rattle.encoding.proofs.table_encoding.decode_slots.Goals as goal

pub loop-k-init : goal.loop-k-init
loop-k-init c = tabulated_none _ _ _ (length-replicate 8 c.decode_slot-slots.result)

pub loop-k-preserved : goal.loop-k-preserved
loop-k-preserved c = tabulated_next _ _ c.loop-k.k _ c.loop-k.invariant _ c.loop-k-test.true c.decode_slot.ensures

pub returns : goal.returns
returns c = tabulated_all _ _ c.loop-k.k _ c.loop-k.invariant c.loop-k-test.false
