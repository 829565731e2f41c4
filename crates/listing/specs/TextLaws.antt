-- Laws that the checker has shown: how long the pieces of the text are, and fields one behind the other.
use Rattle.std.specs.Prelude.{List, [], ◌∷◌, ◌++◌, ◌≡◌, refl, ℕ, ◌+◌, ◌*◌, ◌≤◌, ◌<◌, ◌/◌, ◌%◌, length, get_or, take}
use Rattle.std.proofs.Common.{append_assoc, append-nil, sym, ap, ◌∙◌, add-one, arith, lt-ltb, le-ltb, length-append, take-suc}
use Rattle.std.proofs.Math.Decide.{dec_lt}
use Rattle.common.specs.Choice.{when◌then◌else◌}
use Rattle.listing.specs.Text.{hex_byte, decimal_digits, field, fields}

pub field_length : (b : ℕ) → length (field b) ≡ 3
unfolding field hex_byte
field_length b = refl

pub fields_length : (l : List ℕ) → length (fields l) ≡ 3 * length l
unfolding fields
fields_length [] = refl
fields_length (b ∷ rest) = length-append (field b) (fields rest) ∙ omega (arith, field_length b, fields_length rest)

pub fields_append : (a b : List ℕ) → fields (a ++ b) ≡ fields a ++ fields b
unfolding fields
fields_append [] b = refl
fields_append (x ∷ a) b = ap (λ (l : List ℕ). field x ++ l) (fields_append a b) ∙ sym (append_assoc (field x) (fields a) (fields b))

-- one byte more is one field more
pub fields_more : (l : List ℕ) (i : ℕ) → i < length l → fields (take (i + 1) l) ≡ fields (take i l) ++ field (get_or l i 0)
unfolding fields
fields_more l i h =
    ap (λ (n : ℕ). fields (take n l)) (add-one i)
    ∙ ap fields (take-suc l i 0 h)
    ∙ fields_append (take i l) (get_or l i 0 ∷ [])
    ∙ ap (λ (z : List ℕ). fields (take i l) ++ z) (append-nil (field (get_or l i 0)))

-- a number below 10 is one digit, and the others are two
pub one_digit : (n : ℕ) → n < 10 → decimal_digits n ≡ (48 + n) ∷ []
unfolding decimal_digits when◌then◌else◌
one_digit n h = rw (lt-ltb n 10 h)

pub two_digits : (n : ℕ) → 10 ≤ n → decimal_digits n ≡ (48 + n / 10) ∷ (48 + n % 10) ∷ []
unfolding decimal_digits when◌then◌else◌
two_digits n h = rw (le-ltb n 10 h)

pub decimal_digits_short : (n : ℕ) → length (decimal_digits n) ≤ 2
decimal_digits_short n = go (dec_lt n 10)
  where
    go : Dec (n < 10) → length (decimal_digits n) ≤ 2
    go (yes p) = let h : length (decimal_digits n) ≡ 1 = ap length (one_digit n p) in omega arith
    go (no p) = let h : length (decimal_digits n) ≡ 2 = ap length (two_digits n (omega arith)) in omega arith
