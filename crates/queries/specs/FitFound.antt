-- Definitions that must be believed: what a host may rely on in a fit, as a statement about the free extents (document 02, U2: finding a
-- place for a bay). FitTheorem.antt proves it.
use Rattle.std.specs.Prelude.{ℕ, ◌≤◌, ◌<◌, ◌≢◌, ◌≡◌}
use Rattle.table.specs.Extents.{extent_size}
use Rattle.table.specs.FreeExtentsListed.{IsFreeExtent}
use Rattle.table.specs.declared.extents.Extent.{Extent}
use Rattle.queries.specs.Queries.{FitAnswer}
use Rattle.table.specs.declared.table.Table.{Table}

-- the best fit for a size: a free extent that holds it. None that holds it is shorter, and none of equal length starts lower
pub record IsBestFit (t : Table) (size : ℕ) (e : Extent) : Type 0 where
  pub free : IsFreeExtent t e
  pub holds : size ≤ extent_size e
  pub shortest : (f : Extent) → IsFreeExtent t f → size ≤ extent_size f → extent_size e ≤ extent_size f
  pub lowest : (f : Extent) → IsFreeExtent t f → extent_size f ≡ extent_size e → e.start ≤ f.start

-- no free extent holds the size
abbrev pub NoneHoldsSize : Table → ℕ → Type 0
NoneHoldsSize t size = (e : Extent) → IsFreeExtent t e → extent_size e < size

-- what a fit of a sound table answers, for a size in range
pub record FitFound (t : Table) (size : ℕ) (a : FitAnswer) : Type 0 where
  -- no start is answered if no free extent holds the size, and only then
  pub none : NoneHoldsSize t size → a.refusal ≡ 18
  pub only : a.refusal ≡ 18 → NoneHoldsSize t size
  -- else the fit is accepted, and its answer is the start of the best fit
  pub accepted : a.refusal ≢ 18 → a.refusal ≡ 0
  pub place : a.refusal ≡ 0 → (e : Extent) × IsBestFit t size e × (a.location.0 ≡ e.start)
