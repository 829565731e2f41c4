-- Laws that the checker has shown: the best of a list of extents that rise is one of the list, and no worse than any other that holds the size.
use Rattle.std.specs.Prelude.{ℕ, ◌+◌, ◌≤◌, ◌<◌, Bool, ◌||◌, not, ◌⊎◌, ◌≡◌}
use Rattle.std.proofs.Math.Dec.{ltb}
use Rattle.std.proofs.Math.Bool.{true, false}
use Rattle.std.proofs.lemmas.Bool.{false≢true}
use mathlib.Core.List.{List, [], ◌∷◌}
use Rattle.std.proofs.Math.Logic.{inl, inr}
use Rattle.std.proofs.Math.Path.{refl}
use Rattle.std.proofs.Common.{sym, ap, ◌∙◌, arith}
use Rattle.std.proofs.Math.Decide.{dec_le}
use borrow.Author.Tests.{leb-true, leb-false, le-leb, ltb-true, lt-leb, lt-ltb, not-true}
use Rattle.common.specs.Choice.{when◌then◌else◌}
use Rattle.common.specs.TestLaws.{and_fact, and_test, or_fact, or_left, or_right}
use Rattle.table.specs.Extents.{extent_size}
use Rattle.queries.specs.FitQuery.{holds_size, fits_better, best_of}
use Rattle.table.specs.FreeExtentsListed.{◌IsOneOf◌, RisesFrom}
use Rattle.table.specs.declared.extents.Extent.{Extent}

-- r is no worse a place than f: it is shorter, or as long and starts no higher
abbrev pub NoWorse : Extent → Extent → Type 0
NoWorse r f = (extent_size r < extent_size f) ⊎ ((extent_size r ≡ extent_size f) × (r.start ≤ f.start))

no_worse_trans : (a b c : Extent) → NoWorse a b → NoWorse b c → NoWorse a c
no_worse_trans a b c (inl p) (inl q) = inl (omega arith)
no_worse_trans a b c (inl p) (inr q) = inl (omega (arith, q.0))
no_worse_trans a b c (inr p) (inl q) = inl (omega (arith, p.0))
no_worse_trans a b c (inr p) (inr q) = inr (p.0 ∙ q.0, omega (arith, p.1, q.1))

module _ (size : ℕ) where
  -- r holds the size, and is no worse a place than f
  pub record Wins (r f : Extent) : Type 0 where
    pub holds : size ≤ extent_size r
    pub no_worse : NoWorse r f

  -- ---- one extent against the best so far

  better_wins : (e best : Extent) → fits_better size e best ≡ true → size ≤ extent_size best → Wins e best
  unfolding fits_better
  better_wins e best h q =
      let (holds, other) = and_fact (holds_size size e) (not (holds_size size best) || ltb (extent_size e) (extent_size best)) h in
      record { holds = leb-true _ _ holds; no_worse = go (or_fact (not (holds_size size best)) (ltb (extent_size e) (extent_size best)) other) }
    where
      go : (not (holds_size size best) ≡ true) ⊎ (ltb (extent_size e) (extent_size best) ≡ true) → NoWorse e best
      go (inl u) = let less : extent_size best < size = leb-false _ _ (not-true (holds_size size best) u) in absurd (omega arith)
      go (inr u) = inl (ltb-true _ _ u)

  stays_wins : (e best : Extent) → fits_better size e best ≡ false → size ≤ extent_size e → best.start ≤ e.start → Wins best e
  unfolding fits_better
  stays_wins e best h q low = go (dec_le size (extent_size best)) (dec_le (extent_size best) (extent_size e))
    where
      taken : (not (holds_size size best) || ltb (extent_size e) (extent_size best)) ≡ true → Wins best e
      taken u = absurd (false≢true (sym h ∙ and_test (holds_size size e) _ (le-leb _ _ q) u))

      go : Dec (size ≤ extent_size best) → Dec (extent_size best ≤ extent_size e) → Wins best e
      go (no r) s = taken (or_left (not (holds_size size best)) (ltb (extent_size e) (extent_size best)) (ap not (lt-leb size (extent_size best) (omega arith))))
      go (yes r) (no s) = taken (or_right (not (holds_size size best)) (ltb (extent_size e) (extent_size best)) (lt-ltb (extent_size e) (extent_size best) (omega arith)))
      go (yes r) (yes s) = record { holds = r; no_worse = as_long (dec_le (extent_size e) (extent_size best)) }
        where
          as_long : Dec (extent_size e ≤ extent_size best) → NoWorse best e
          as_long (yes u) = inr (omega arith, low)
          as_long (no u) = inl (omega arith)

  wins_trans : (a b c : Extent) → Wins a b → Wins b c → Wins a c
  wins_trans a b c p q = record { holds = p.holds; no_worse = no_worse_trans a b c p.no_worse q.no_worse }

  -- ---- the best of a list

  -- it is no worse than the best so far
  best_first : (best : Extent) (l : List Extent) → size ≤ extent_size best → Wins (best_of size best l) best
  unfolding best_of when◌then◌else◌
  best_first best [] q = record { holds = q; no_worse = inr (refl, omega arith) }
  best_first best (e ∷ rest) q = go (fits_better size e best) refl (best_first e rest) (best_first best rest)
    where
      go : (b : Bool) → fits_better size e best ≡ b → (size ≤ extent_size e → Wins (best_of size e rest) e) → (size ≤ extent_size best → Wins (best_of size best rest) best)
          → Wins (best_of size (when b then e else best) rest) best
      go true h one other = let w = better_wins e best h q in wins_trans (best_of size e rest) e best (one w.holds) w
      go false h one other = other q

  -- it is no worse than any of the list that holds the size
  pub best_wins : (best : Extent) (n : ℕ) (l : List Extent) → RisesFrom n l → best.start ≤ n → (f : Extent) → f IsOneOf l → size ≤ extent_size f → Wins (best_of size best l) f
  unfolding best_of when◌then◌else◌
  best_wins best n [] rises low f m q = absurd m
  best_wins best n (e ∷ rest) rises low f m q =
      go (fits_better size e best) refl m (best_wins e (e.end + 1) rest rises.2 (omega (arith, rises.1)) f) (best_wins best (e.end + 1) rest rises.2 (omega (arith, rises.0, rises.1)) f)
    where
      go : (b : Bool) → fits_better size e best ≡ b → (f ≡ e) ⊎ (f IsOneOf rest) → (f IsOneOf rest → size ≤ extent_size f → Wins (best_of size e rest) f)
          → (f IsOneOf rest → size ≤ extent_size f → Wins (best_of size best rest) f) → Wins (best_of size (when b then e else best) rest) f
      go true h (inl m) one other = rw m (best_first e rest (rw (← m) q))
      go true h (inr m) one other = one m q
      go false h (inl m) one other =
          let w : Wins best e = stays_wins e best h (rw (← m) q) (omega (arith, rises.0)) in
          rw m (wins_trans (best_of size best rest) best e (best_first best rest w.holds) w)
      go false h (inr m) one other = other m q

  -- it is the best so far, or one of the list
  pub best_listed : (best : Extent) (l : List Extent) → (best_of size best l ≡ best) ⊎ (best_of size best l IsOneOf l)
  unfolding best_of when◌then◌else◌
  best_listed best [] = inl refl
  best_listed best (e ∷ rest) = go (fits_better size e best) (best_listed e rest) (best_listed best rest)
    where
      go : (b : Bool) → (best_of size e rest ≡ e) ⊎ (best_of size e rest IsOneOf rest) → (best_of size best rest ≡ best) ⊎ (best_of size best rest IsOneOf rest)
          → (best_of size (when b then e else best) rest ≡ best) ⊎ (best_of size (when b then e else best) rest IsOneOf (e ∷ rest))
      go true (inl u) other = inr (inl u)
      go true (inr u) other = inr (inr u)
      go false one (inl u) = inl u
      go false one (inr u) = inr (inr u)
