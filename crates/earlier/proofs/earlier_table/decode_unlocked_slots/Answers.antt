-- `earlier::earlier_table::decode_unlocked_slots`: each iteration reads one slot.
use Rattle.slices.specs.PieceLaws.{tabulated_next}
use Rattle.earlier.proofs.earlier_table.decode_unlocked_slots.Goals as goal

pub loop-k-preserved : goal.loop-k-preserved
loop-k-preserved c = tabulated_next _ _ c.loop-k.k _ c.loop-k.invariant _ c.loop-k-test.true c.decode_unlocked_slot.ensures
