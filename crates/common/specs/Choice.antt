-- Definitions that must be believed: a choice by a test.
use Rattle.std.specs.Prelude.{Bool, true, false}

-- the first if the test holds, else the second
infixr 1 when◌then◌else◌
unfoldable pub when◌then◌else◌ : {A : Type 0} → Bool → A → A → A
when◌then◌else◌ true a b = a
when◌then◌else◌ false a b = b
