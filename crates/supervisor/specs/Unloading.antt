-- Definitions that must be believed: what an accepted unload does (document 01, "Floor and bays": lift).
use Rattle.std.specs.Prelude.{replicate}
use Rattle.common.specs.Layout.{layout_size}
use Rattle.system.specs.System.{Patch, patch}
use Rattle.table.specs.Table.{empty_slot}
use Rattle.table.specs.declared.table.Slot.{Slot}

-- the partition is zeroed and the slot emptied
unfoldable pub unload_patch : Slot → Patch
unload_patch s = patch empty_slot s.partition.base (replicate (layout_size s.partition.layout) 0)
