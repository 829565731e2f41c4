-- Definitions that must be believed: a function many times.
use Rattle.std.specs.Prelude.{ℕ, zero, suc}

-- n times f
unfoldable pub times : {A : Type 0} → ℕ → (A → A) → A → A
times zero f x = x
times (suc n) f x = f (times n f x)
