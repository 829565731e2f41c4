-- Definitions that must be believed: sums and counts.
use Rattle.std.specs.Prelude.{ℕ, zero, suc, ◌+◌, Bool, List, [], ◌∷◌}
use Rattle.common.specs.Choice.{when◌then◌else◌}

-- the sum of a list
abbrev pub total_of : List ℕ → ℕ
total_of [] = 0
total_of (n ∷ ns) = n + total_of ns

-- the sum of f over every number below n
unfoldable pub total_below : ℕ → (ℕ → ℕ) → ℕ
total_below zero f = 0
total_below (suc n) f = total_below n f + f n

-- 1 if the test holds, else 0: a sum of these counts what passes
abbrev pub one_if : Bool → ℕ
one_if b = when b then 1 else 0
