-- Laws that the checker has shown: sums of equal numbers, of small ones, and of a list by its places.
use Rattle.std.specs.Prelude.{ℕ, zero, suc, ◌+◌, ◌*◌, ◌≤◌, ◌<◌, length, get_or, List, [], ◌∷◌, map, ◌≡◌, refl}
use Rattle.std.proofs.Common.{sym, ap, ◌∙◌, arith}
use Rattle.common.specs.Totals.{total_of, total_below}

pub total_same : (n : ℕ) (f g : ℕ → ℕ) → ((k : ℕ) → k < n → f k ≡ g k) → total_below n f ≡ total_below n g
unfolding total_below
total_same zero f g h = refl
total_same (suc n) f g h =
    let front : total_below n f ≡ total_below n g = total_same n f g (λ k q. h k (omega arith)) in
    let last : f n ≡ g n = h n (omega arith) in
    omega arith

pub total_most : (n most : ℕ) (f : ℕ → ℕ) → ((k : ℕ) → k < n → f k ≤ most) → total_below n f ≤ n * most
unfolding total_below
total_most zero most f h = omega arith
total_most (suc n) most f h =
    let front : total_below n f ≤ n * most = total_most n most f (λ k q. h k (omega arith)) in
    let last : f n ≤ most = h n (omega arith) in
    let whole : suc n * most ≡ n * most + most = omega arith in
    omega arith

total_first : (n : ℕ) (f : ℕ → ℕ) → total_below (suc n) f ≡ f 0 + total_below n (λ i. f (suc i))
unfolding total_below
total_first zero f = omega arith
total_first (suc n) f = omega (arith, total_first n f)

-- one for each element
pub total_ones : (list : List ℕ) → total_of (map (λ k. 1) list) ≡ length list
total_ones [] = refl
total_ones (k ∷ rest) = omega (arith, total_ones rest)

-- a list is summed place by place
pub total_places : (f : ℕ → ℕ) (list : List ℕ) → total_of (map f list) ≡ total_below (length list) (λ i. f (get_or list i 0))
unfolding total_below
total_places f [] = refl
total_places f (k ∷ rest) = ap (λ (n : ℕ). f k + n) (total_places f rest) ∙ sym (total_first (length rest) (λ i. f (get_or (k ∷ rest) i 0)))
