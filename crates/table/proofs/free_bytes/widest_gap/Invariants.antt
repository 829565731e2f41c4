-- `table::free_bytes::widest_gap`: partition by partition.
use mathlib.Core.Path.{◌≡◌}
use Rattle.table.specs.Gaps.{widest_gap_below}
use Rattle.table.proofs.free_bytes.widest_gap.Given as goal

abbrev pub invariant-loop-slot : goal.invariant-loop-slot
invariant-loop-slot l = l.widest ≡ widest_gap_below l.fn.table l.slot-index
