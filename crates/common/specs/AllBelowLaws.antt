-- Laws that the checker has shown: a loop that carries a Bool, which is `all_below i test` after i iterations; and a test of each element of
-- a list, by their places.
use Rattle.std.specs.Prelude.{ℕ, zero, suc, ◌+◌, ◌≤◌, ◌≡◌, Bool, true, ◌&&◌, List, get_or, length, take}
use Rattle.std.specs.List.{list_all}
use Rattle.std.proofs.Common.{le_antisymm, add-one, sym, ap, ◌∙◌, arith}
use Rattle.std.proofs.Math.Path.{refl}
use Rattle.std.proofs.lemmas.List.{take_all}
use Rattle.std.proofs.lemmas.List.Folds.{list_all_more}
use Rattle.common.specs.Tests.{all_below}

module _ (test : ℕ → Bool) where
  -- before the first iteration
  pub all_none : true ≡ all_below 0 test
  unfolding all_below
  all_none = refl

  -- one more iteration
  pub all_more : (i : ℕ) {ok here : Bool} → ok ≡ all_below i test → here ≡ test i → (ok && here) ≡ all_below (i + 1) test
  unfolding all_below
  all_more i e h = rw (add-one i, e, h)

  -- the last iteration is done
  pub all_done : (n i : ℕ) {ok : Bool} → ok ≡ all_below i test → i ≤ n → n ≤ i → ok ≡ all_below n test
  all_done n i e l g = e ∙ ap (λ (k : ℕ). all_below k test) (le_antisymm l g)

-- a test of each element of a list, as a test of its places
pub each_listed : {A : Type 0} (test : A → Bool) (d : A) (l : List A) (n : ℕ) → length l ≡ n → list_all test l ≡ all_below n (λ k. test (get_or l k d))
unfolding all_below
each_listed {A} test d l n e = ap (list_all test) (sym (take_all n l (omega arith))) ∙ go n (omega arith)
  where
    go : (i : ℕ) → i ≤ length l → list_all test (take i l) ≡ all_below i (λ k. test (get_or l k d))
    go zero q = refl
    go (suc i) q = rw (← add-one i) (list_all_more test l i d q) ∙ ap (λ (b : Bool). b && test (get_or l i d)) (go i (omega arith))
