-- `queries::extent_list::free_extents`: partition by partition (ExtentListLaws.antt).
use mathlib.Core.Path.{◌≡◌}
use Rattle.table.specs.Extents.{without_slots_below}
use Rattle.queries.proofs.extent_list.free_extents.Given as goal

abbrev pub invariant-loop-slot : goal.invariant-loop-slot
invariant-loop-slot l = l.list.items ≡ without_slots_below l.fn.table l.slot-index
