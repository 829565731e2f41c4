-- `table::free_bytes::bytes_left`: partition by partition.
use mathlib.Core.Path.{◌≡◌}
use Rattle.table.specs.Gaps.{bytes_left_below}
use Rattle.table.proofs.free_bytes.bytes_left.Given as goal

abbrev pub invariant-loop-slot : goal.invariant-loop-slot
invariant-loop-slot l = l.free ≡ bytes_left_below l.fn.table l.slot-index
