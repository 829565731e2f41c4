-- Definitions that must be believed: the free extents of a memory, worked out from the partitions (document 02, U2: a free stretch).
-- FreeExtentsListed.antt says in terms of bytes what a free extent is; ExtentsTheorem.antt shows that the list here has exactly those.
use Rattle.std.specs.Prelude.{ℕ, zero, suc, ◌-◌, max, min, ltb, List, [], ◌∷◌, ◌++◌, map}
use Rattle.common.specs.Choice.{when◌then◌else◌}
use Rattle.common.specs.Totals.{total_of}
use Rattle.table.specs.Table.{is_loaded, partition_end, slot_at}
use Rattle.table.specs.declared.extents.Extent.{Extent}
use Rattle.table.specs.declared.table.Partition.{Partition}
use Rattle.table.specs.declared.table.Table.{Table}

-- the bytes from one location on, up to another and without it
abbrev pub extent : ℕ → ℕ → Extent
extent start end = record { start = start; end = end }

-- the same as a list: of one extent, or of none if there is no byte
unfoldable pub extent_between : ℕ → ℕ → List Extent
extent_between start end = when ltb start end then extent start end ∷ [] else []

-- no byte, at 0
abbrev pub empty_extent : Extent
empty_extent = extent 0 0

-- how many bytes an extent has
abbrev pub extent_size : Extent → ℕ
extent_size e = e.end - e.start

-- what of an extent lies below a partition, and what lies above it
abbrev pub lower_part : Partition → Extent → List Extent
lower_part p e = extent_between e.start (min e.end p.base.0)

abbrev pub upper_part : Partition → Extent → List Extent
upper_part p e = extent_between (max e.start (partition_end p)) e.end

-- what is left of an extent without a partition's bytes
unfoldable pub without_partition : Partition → Extent → List Extent
without_partition p e = lower_part p e ++ upper_part p e

-- what is left of each extent of a list
unfoldable pub each_without : Partition → List Extent → List Extent
each_without p [] = []
each_without p (e ∷ rest) = without_partition p e ++ each_without p rest

-- what is left of the memory without the partitions of the slots below n
unfoldable pub without_slots_below : Table → ℕ → List Extent
without_slots_below t zero = extent_between 0 t.size
without_slots_below t (suc n) = when is_loaded t n then each_without (slot_at t n).partition (without_slots_below t n) else without_slots_below t n

-- the free extents: what is left without the partitions of all eight slots
abbrev pub free_extents : Table → List Extent
free_extents t = without_slots_below t 8

-- how many bytes the extents of a list have together; how many are free
abbrev pub extents_total : List Extent → ℕ
extents_total l = total_of (map extent_size l)

abbrev pub free_total : Table → ℕ
free_total t = extents_total (free_extents t)

-- the length of the widest extent of a list, 0 if it has none; that of the widest free extent
unfoldable pub widest_of : List Extent → ℕ
widest_of [] = 0
widest_of (e ∷ rest) = max (extent_size e) (widest_of rest)

abbrev pub widest_extent : Table → ℕ
widest_extent t = widest_of (free_extents t)
