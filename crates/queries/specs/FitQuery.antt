-- Definitions that must be believed: where a partition of a size fits best (document 02, U2: finding a place for a bay).
use Rattle.std.specs.Prelude.{ℕ, leb, ltb, Bool, ◌&&◌, ◌||◌, not, List, [], ◌∷◌}
use Rattle.common.specs.Choice.{when◌then◌else◌}
use Rattle.common.specs.Ranges.{is_one_to}
use Rattle.common.specs.Refusals.{Condition, ◌gives◌}
use Rattle.table.specs.Extents.{empty_extent, extent_size, free_extents, widest_extent}
use Rattle.table.specs.declared.extents.Extent.{Extent}
use Rattle.table.specs.declared.table.Table.{Table}

-- the extent has that many bytes or more
abbrev pub holds_size : ℕ → Extent → Bool
holds_size size e = leb size (extent_size e)

-- an extent takes the place of the best one so far: it holds the size, and the best one does not, or is longer
unfoldable pub fits_better : ℕ → Extent → Extent → Bool
fits_better size e best = holds_size size e && (not (holds_size size best) || ltb (extent_size e) (extent_size best))

-- the best of a list, after the best one so far. Of equal ones the first stays
unfoldable pub best_of : ℕ → Extent → List Extent → Extent
best_of size best [] = best
best_of size best (e ∷ rest) = best_of size (when fits_better size e best then e else best) rest

-- the smallest free extent that holds the size. The list rises, so the first of equal ones has the lowest start. No byte, at 0, if none holds
-- it
unfoldable pub best_fit : Table → ℕ → Extent
best_fit t size = best_of size empty_extent (free_extents t)

-- a size that may be asked about: 1 to that of the largest partition, a window of 32,768 bytes and two capacities of 4,096
abbrev pub is_size_in_range : ℕ → Bool
is_size_in_range size = is_one_to size 40960

-- the size is out of range; no free extent holds it
unfoldable pub fit_conditions : Table → ℕ → List Condition
fit_conditions t size = not (is_size_in_range size) gives 17 ∷ ltb (widest_extent t) size gives 18 ∷ []
