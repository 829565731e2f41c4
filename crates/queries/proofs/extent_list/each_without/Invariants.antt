-- `queries::extent_list::each_without`: extent by extent (ExtentListLaws.antt).
use lib.ListN.{take}
use mathlib.Core.Path.{◌≡◌}
use Rattle.table.specs.Extents.{each_without}
use Rattle.queries.proofs.extent_list.each_without.Given as goal

abbrev pub invariant-loop-e : goal.invariant-loop-e
invariant-loop-e l = l.left.items ≡ each_without l.p (take l.e-index l.extents)
