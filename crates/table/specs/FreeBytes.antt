-- Definitions that must be believed: the two numbers that a table keeps of its free bytes, and what they say (document 02, U5: free bytes on
-- the wall display). FreeBytesTheorem.antt proves `FreeBytesCounted` of every sound table.
use Rattle.std.specs.Prelude.{ℕ, ◌+◌, ◌≤◌, eqb, Bool, ◌&&◌, ◌≡◌}
use Rattle.common.specs.Layout.{layout_size}
use Rattle.common.specs.Totals.{total_below}
use Rattle.table.specs.Extents.{extent_size, extents_total, free_extents, free_total, widest_extent}
use Rattle.table.specs.FreeExtentsListed.{IsFree, IsFreeExtent}
use Rattle.table.specs.Table.{slot_at, with_free_bytes}
use Rattle.table.specs.declared.extents.Extent.{Extent}
use Rattle.table.specs.declared.table.Table.{Table}

-- the two numbers are those of the partitions: how many bytes are free, and the length of the widest free extent
unfoldable pub is_counted : Table → Bool
is_counted t = eqb t.free (free_total t) && eqb t.widest (widest_extent t)

-- the table with its free bytes counted
abbrev pub counted : Table → Table
counted t = with_free_bytes t (free_total t) (widest_extent t)

-- what the two numbers of a sound table are
pub record FreeBytesCounted (t : Table) : Type 0 where
  -- `free` is the memory's length less the bytes of all partitions
  pub less : t.free + total_below 8 (λ k. layout_size (slot_at t k).partition.layout) ≡ t.size
  -- and the sum of the free extents
  pub sum : t.free ≡ extents_total (free_extents t)
  -- no free extent is longer than `widest`
  pub most : (e : Extent) → IsFreeExtent t e → extent_size e ≤ t.widest
  -- one is as long, if a byte is free
  pub reached : (i : ℕ) → IsFree t i → (e : Extent) × IsFreeExtent t e × (extent_size e ≡ t.widest)
  -- and it is 0 if none is
  pub none : ((i : ℕ) → ¬ (IsFree t i)) → t.widest ≡ 0
