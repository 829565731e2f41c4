-- Laws that the checker has shown: what tests say as facts, and back.
use Rattle.std.specs.Prelude.{Bool, true, false, ◌&&◌, ◌||◌, not, List, [], ◌∷◌, ◌⊎◌, ◌≡◌, refl, ℕ, zero, suc, ◌≤◌, ◌<◌, eqb, leb}
use Rattle.std.proofs.lemmas.Bool.{false≢true, lt-leb}
use Rattle.std.proofs.Common.{inl, inr, sym, ap, ◌∙◌, arith, rules, leb-true, le-leb, lt-ltb, le-ltb, eqb-true, eq-eqb, ne_eqb}
use Rattle.std.proofs.Math.Decide.{ℕ_discrete}
use Rattle.common.specs.Ranges.{is_one_to}
use Rattle.common.specs.Tests.{and_all, all, all_below}

-- rules for `search` where a contract has tests on numbers: each gives the value of a test from the fact that holds in its branch
pub ruleset tests = (lt-ltb, le-ltb, le-leb, lt-leb, eq-eqb, ne_eqb, rules)

-- ---- two tests

pub and_fact : (a b : Bool) → (a && b) ≡ true → (a ≡ true) × (b ≡ true)
and_fact true b e = (refl, e)
and_fact false b e = absurd (false≢true e)

pub and_test : (a b : Bool) → a ≡ true → b ≡ true → (a && b) ≡ true
and_test true b e f = f
and_test false b e f = e

pub and_true : (b : Bool) → (b && true) ≡ b
and_true true = refl
and_true false = refl

pub or_fact : (a b : Bool) → (a || b) ≡ true → (a ≡ true) ⊎ (b ≡ true)
or_fact true b e = inl refl
or_fact false b e = inr e

pub or_left : (a b : Bool) → a ≡ true → (a || b) ≡ true
or_left true b e = refl
or_left false b e = absurd (false≢true e)

pub or_right : (a b : Bool) → b ≡ true → (a || b) ≡ true
or_right true b e = refl
or_right false b e = e

pub or_false : (a b : Bool) → (a || b) ≡ false → b ≡ false
or_false true b e = absurd (false≢true (sym e))
or_false false b e = e

-- a test that is asked only where one number is another
pub when_fact : (n m a b : ℕ) → (not (eqb n m) || eqb a b) ≡ true → n ≡ m → a ≡ b
when_fact n m a b h e = go (or_fact (not (eqb n m)) (eqb a b) h)
  where
    go : (not (eqb n m) ≡ true) ⊎ (eqb a b ≡ true) → a ≡ b
    go (inl u) = absurd (false≢true (sym (ap not (eq-eqb n m e)) ∙ u))
    go (inr u) = eqb-true a b u

pub when_test : (n m a b : ℕ) → (n ≡ m → a ≡ b) → (not (eqb n m) || eqb a b) ≡ true
when_test n m a b h = go (ℕ_discrete n m)
  where
    go : Dec (n ≡ m) → (not (eqb n m) || eqb a b) ≡ true
    go (yes e) = or_right (not (eqb n m)) (eqb a b) (eq-eqb a b (h e))
    go (no e) = or_left (not (eqb n m)) (eqb a b) (ap not (ne_eqb n m e))

-- ---- a range

pub record OneTo (n most : ℕ) : Type 0 where
  pub some : 1 ≤ n
  pub fits : n ≤ most

pub one_to_fact : (n most : ℕ) → is_one_to n most ≡ true → OneTo n most
one_to_fact n most h = let p = and_fact (leb 1 n) (leb n most) h in record { some = leb-true 1 n p.0; fits = leb-true n most p.1 }

pub one_to_test : (n most : ℕ) → OneTo n most → is_one_to n most ≡ true
one_to_test n most w = and_test (leb 1 n) (leb n most) (le-leb 1 n w.some) (le-leb n most w.fits)

-- ---- a list of tests

-- each of them holds
abbrev pub AllHold : List Bool → Type 0
AllHold [] = Unit {0}
AllHold (b ∷ bs) = (b ≡ true) × AllHold bs

and_all_fact : (held : Bool) (bs : List Bool) → and_all held bs ≡ true → (held ≡ true) × AllHold bs
unfolding and_all
and_all_fact held [] h = (h, tt)
and_all_fact held (b ∷ bs) h =
    let r = and_all_fact (held && b) bs h in
    let p = and_fact held b r.0 in
    (p.0, (p.1, r.1))

and_all_test : (held : Bool) (bs : List Bool) → held ≡ true → AllHold bs → and_all held bs ≡ true
unfolding and_all
and_all_test held [] e h = e
and_all_test held (b ∷ bs) e h = and_all_test (held && b) bs (and_test held b e h.0) h.1

pub all_fact : (bs : List Bool) → all bs ≡ true → AllHold bs
all_fact bs h = (and_all_fact true bs h).1

pub all_test : (bs : List Bool) → AllHold bs → all bs ≡ true
all_test bs h = and_all_test true bs refl h

-- ---- every number below another

pub below_fact : (n : ℕ) (test : ℕ → Bool) → all_below n test ≡ true → (i : ℕ) → i < n → test i ≡ true
unfolding all_below
below_fact zero test h i q = absurd (omega arith)
below_fact (suc n) test h i q = go (ℕ_discrete i n) (below_fact n test (and_fact (all_below n test) (test n) h).0 i)
  where
    go : Dec (i ≡ n) → (i < n → test i ≡ true) → test i ≡ true
    go (yes e) ih = ap test e ∙ (and_fact (all_below n test) (test n) h).1
    go (no e) ih = ih (omega arith)

pub below_test : (n : ℕ) (test : ℕ → Bool) → ((i : ℕ) → i < n → test i ≡ true) → all_below n test ≡ true
unfolding all_below
below_test zero test h = refl
below_test (suc n) test h = and_test (all_below n test) (test n) (below_test n test (λ i q. h i (omega arith))) (h n (omega arith))

-- either the test fails of every number below n, or it holds of one
pub none_or_some : (n : ℕ) (test : ℕ → Bool) → ((i : ℕ) → i < n → test i ≡ false) ⊎ ((i : ℕ) × (i < n) × (test i ≡ true))
none_or_some zero test = inl (λ i q. absurd (omega arith))
none_or_some (suc n) test = go (test n) refl (none_or_some n test)
  where
    go : (b : Bool) → test n ≡ b → ((i : ℕ) → i < n → test i ≡ false) ⊎ ((i : ℕ) × (i < n) × (test i ≡ true))
        → ((i : ℕ) → i < suc n → test i ≡ false) ⊎ ((i : ℕ) × (i < suc n) × (test i ≡ true))
    go true e below = inr (n, omega arith, e)
    go false e (inr some) = inr (some.0, omega (arith, some.1), some.2)
    go false e (inl none) = inl (λ i q. each i q (ℕ_discrete i n))
      where
        each : (i : ℕ) → i < suc n → Dec (i ≡ n) → test i ≡ false
        each i q (yes r) = ap test r ∙ e
        each i q (no r) = none i (omega arith)
