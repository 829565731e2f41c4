-- Definitions that must be believed: several tests as one.
use Rattle.std.specs.Prelude.{suc, zero, ℕ, Bool, ◌&&◌, true, List, [], ◌∷◌}

-- a test that was made before holds, and every test of a list: they are looked at from the front
unfoldable pub and_all : Bool → List Bool → Bool
and_all held [] = held
and_all held (b ∷ bs) = and_all (held && b) bs

-- every test of a list holds
abbrev pub all : List Bool → Bool
all bs = and_all true bs

-- a test holds of every number below n
unfoldable pub all_below : ℕ → (ℕ → Bool) → Bool
all_below zero test = true
all_below (suc n) test = all_below n test && test n
