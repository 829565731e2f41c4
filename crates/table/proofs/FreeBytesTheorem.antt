-- Laws that the checker has shown: `free_bytes_counted`, the proof of what the two numbers of a sound table are.
use Rattle.std.specs.Prelude.{ℕ, ◌≤◌, max, List, [], ◌∷◌, ◌≡◌, refl}
use Rattle.std.proofs.Common.{inl, inr, sym, ◌∙◌, arith}
use Rattle.std.proofs.Math.Decide.{dec_le}
use Rattle.table.specs.ExtentLaws.{Covered}
use Rattle.table.proofs.ExtentTotalLaws.{widest_most}
use Rattle.table.specs.Extents.{extent_size, free_extents, widest_of}
use Rattle.table.proofs.ExtentsTheorem.{free_covered, free_extents_listed}
use Rattle.table.specs.FreeBytes.{FreeBytesCounted}
use Rattle.table.specs.FreeExtentsListed.{IsFree, IsFreeExtent, ◌IsOneOf◌}
use Rattle.table.specs.SoundLaws.{TableSound}
use Rattle.table.specs.declared.extents.Extent.{Extent}
use Rattle.table.specs.declared.table.Table.{Table}

-- ---- the widest of a list

-- one of a list that has any is as long as the widest
widest_one : (f : Extent) (rest : List Extent) → (e : Extent) × (e IsOneOf (f ∷ rest)) × (extent_size e ≡ widest_of (f ∷ rest))
unfolding widest_of
widest_one f [] = (f, inl refl, omega arith)
widest_one f (g ∷ rest) = go (dec_le (widest_of (g ∷ rest)) (extent_size f)) (widest_one g rest)
  where
    go : Dec (widest_of (g ∷ rest) ≤ extent_size f) → (e : Extent) × (e IsOneOf (g ∷ rest)) × (extent_size e ≡ widest_of (g ∷ rest))
        → (e : Extent) × (e IsOneOf (f ∷ g ∷ rest)) × (extent_size e ≡ max (extent_size f) (widest_of (g ∷ rest)))
    go (yes q) further = (f, inl refl, omega arith)
    go (no q) further = (further.0, inr further.1, omega (arith, further.2))

covering_one : (i : ℕ) (l : List Extent) → Covered i l → (e : Extent) × (e IsOneOf l) × (extent_size e ≡ widest_of l)
covering_one i [] c = absurd c
covering_one i (f ∷ rest) c = widest_one f rest

widest_none : (l : List Extent) → ((e : Extent) → e IsOneOf l → ⊥) → widest_of l ≡ 0
unfolding widest_of
widest_none [] h = refl
widest_none (e ∷ rest) h = absurd (h e (inl refl))

-- ---- the table

module _ (t : Table) (sound : TableSound t) where
  widest_reached : (i : ℕ) → IsFree t i → (e : Extent) × IsFreeExtent t e × (extent_size e ≡ t.widest)
  widest_reached i free =
      let one = covering_one i (free_extents t) (free_covered t i free) in
      (one.0, (free_extents_listed t sound.slots).each one.0 one.1, one.2 ∙ sym sound.widest)

  -- What the two numbers of a sound table are.
  pub free_bytes_counted : FreeBytesCounted t
  free_bytes_counted =
      record {
        less = omega (arith, sound.free, (free_extents_listed t sound.slots).total);
        sum = sound.free;
        most = λ e free. omega (arith, sound.widest, widest_most (free_extents t) e ((free_extents_listed t sound.slots).all e free));
        reached = widest_reached;
        none = λ h. sound.widest ∙ widest_none (free_extents t) (λ e m. let run = (free_extents_listed t sound.slots).each e m in h e.start (run.all e.start (omega arith) run.some));
      }
