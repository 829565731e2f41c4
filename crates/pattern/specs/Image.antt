-- Definitions that must be believed: the window's bytes, and the body of `PC` that stands for them.
use Rattle.std.specs.Prelude.{ℕ, ◌-◌, Bool, not, ◌&&◌, List, [], ◌∷◌, ◌++◌, length, get_or, replicate, eqb}
use Rattle.common.specs.Choice.{when◌then◌else◌}

-- x in front of a trimmed list
abbrev pub cons_trimmed : ℕ → List ℕ → List ℕ
cons_trimmed x (y ∷ ys) = x ∷ y ∷ ys
cons_trimmed x [] = when eqb x 0 then [] else x ∷ []

-- a list without its trailing zeros
unfoldable pub trim : List ℕ → List ℕ
trim [] = []
trim (x ∷ xs) = cons_trimmed x (trim xs)

-- the window of n bytes that starts with the code, the rest zero
abbrev pub padded : ℕ → List ℕ → List ℕ
padded n code = code ++ replicate (n - length code) 0

-- a body that is not empty, and whose last byte is zero
unfoldable pub ends_in_zero : List ℕ → Bool
ends_in_zero body = not (eqb (length body) 0) && eqb (get_or body (length body - 1) 0) 0
