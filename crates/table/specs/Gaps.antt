-- What private code is held to, and `count_free`: how it counts the free bytes, without a list of extents. Nothing here has to be believed:
-- GapLaws.antt shows that it counts `free_total` and `widest_extent` if the slots are sound.
use Rattle.std.specs.Prelude.{ℕ, zero, suc, ◌-◌, max, min, ltb}
use Rattle.common.specs.Choice.{when◌then◌else◌}
use Rattle.common.specs.Layout.{layout_size}
use Rattle.table.specs.Table.{partition_end, slot_at, with_free_bytes}
use Rattle.table.specs.declared.table.Partition.{Partition}
use Rattle.table.specs.declared.table.Table.{Table}

-- what the partitions of the slots below n leave of the memory's length
unfoldable pub bytes_left_below : Table → ℕ → ℕ
bytes_left_below t zero = t.size
bytes_left_below t (suc n) = bytes_left_below t n - layout_size (slot_at t n).partition.layout

-- where a run of bytes from `from` on ends: at `end`, or where the partition starts, if that is lower. A partition that ends at `from` or
-- below does not count
unfoldable pub end_before : Partition → (from end : ℕ) → ℕ
end_before p from end = when ltb from (partition_end p) then min end p.base.0 else end

-- where the run from `from` on ends, by the partitions of the slots below n
unfoldable pub gap_end_below : Table → ℕ → ℕ → ℕ
gap_end_below t from zero = t.size
gap_end_below t from (suc n) = end_before (slot_at t n).partition from (gap_end_below t from n)

-- how many bytes it has, by all partitions
abbrev pub gap_from : Table → ℕ → ℕ
gap_from t from = gap_end_below t from 8 - from

-- the longest of the runs from 0 on and from behind each partition of the slots below n on
unfoldable pub widest_gap_below : Table → ℕ → ℕ
widest_gap_below t zero = gap_from t 0
widest_gap_below t (suc n) = max (widest_gap_below t n) (gap_from t (partition_end (slot_at t n).partition))

-- the table with its free bytes counted so, by all partitions
abbrev pub counted_by_partitions : Table → Table
counted_by_partitions t = with_free_bytes t (bytes_left_below t 8) (widest_gap_below t 8)
