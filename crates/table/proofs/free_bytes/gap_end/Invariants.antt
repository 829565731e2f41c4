-- `table::free_bytes::gap_end`: partition by partition.
use mathlib.Core.Path.{◌≡◌}
use Rattle.table.specs.Gaps.{gap_end_below}
use Rattle.table.proofs.free_bytes.gap_end.Given as goal

abbrev pub invariant-loop-slot : goal.invariant-loop-slot
invariant-loop-slot l = l.end ≡ gap_end_below l.fn.table l.fn.from l.slot-index
