-- Definitions that must be believed: what a free extent is, in terms of bytes, and what the list `free_extents` has (document 02, U2: a free
-- stretch). ExtentsTheorem.antt proves it of every sound table.
use Rattle.std.specs.Prelude.{ℕ, ◌+◌, ◌≤◌, ◌<◌, List, [], ◌∷◌, ◌⊎◌, ◌≡◌}
use Rattle.common.specs.Layout.{layout_size}
use Rattle.common.specs.Totals.{total_below}
use Rattle.table.specs.Extents.{free_extents, free_total}
use Rattle.table.specs.Table.{InNoPartition, slot_at}
use Rattle.table.specs.declared.extents.Extent.{Extent}
use Rattle.table.specs.declared.table.Table.{Table}

-- byte i is in the memory, and in no partition
abbrev pub IsFree : Table → ℕ → Type 0
IsFree t i = (i < t.size) × InNoPartition i t

-- a run of one or more bytes, all of one kind, that can be lengthened at neither end
pub record IsWholeRun (Kind : ℕ → Type 0) (e : Extent) : Type 0 where
  pub some : e.start < e.end
  pub all : (i : ℕ) → e.start ≤ i → i < e.end → Kind i
  -- the byte before its first is not of that kind, nor is the byte behind its last
  pub low : (i : ℕ) → i + 1 ≡ e.start → ¬ (Kind i)
  pub high : ¬ (Kind e.end)

-- a free extent: a run of free bytes that can be lengthened at neither end
abbrev pub IsFreeExtent : Table → Extent → Type 0
IsFreeExtent t e = IsWholeRun (IsFree t) e

-- the extent is one of the list
infix 40 ◌IsOneOf◌
abbrev pub ◌IsOneOf◌ : Extent → List Extent → Type 0
e IsOneOf [] = ⊥
e IsOneOf (f ∷ rest) = (e ≡ f) ⊎ (e IsOneOf rest)

-- extents that rise from location n on: each has a byte; the first starts at n or above, and each further one above the end of the one
-- before it
abbrev pub RisesFrom : ℕ → List Extent → Type 0
RisesFrom n [] = Unit {0}
RisesFrom n (e ∷ rest) = (n ≤ e.start) × (e.start < e.end) × RisesFrom (e.end + 1) rest

-- what the list `free_extents` of a sound table is
pub record FreeExtentsListed (t : Table) : Type 0 where
  -- it has free extents only, and all of them
  pub each : (e : Extent) → e IsOneOf free_extents t → IsFreeExtent t e
  pub all : (e : Extent) → IsFreeExtent t e → e IsOneOf free_extents t
  -- it stands in rising order
  pub rising : RisesFrom 0 (free_extents t)
  -- its bytes and those of the partitions make up the memory: the free total is the memory's length less the bytes of all partitions
  pub total : free_total t + total_below 8 (λ k. layout_size (slot_at t k).partition.layout) ≡ t.size
