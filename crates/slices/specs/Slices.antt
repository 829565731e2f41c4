-- Definitions that must be believed: a part of a list of bytes, what a copy or a fill leaves, and a list made of pieces or of elements.
use Rattle.std.specs.Prelude.{ℕ, zero, suc, ◌+◌, ◌<◌, List, [], ◌∷◌, ◌++◌, length, get_or, take, drop, replicate, leb}
use Rattle.common.specs.Choice.{when◌then◌else◌}

-- each element is a byte, as in every slice of bytes
unfoldable pub AllBytes : List ℕ → Type 0
AllBytes s = (i : ℕ) → get_or s i 0 < 256

-- the n bytes of s from at on, or as many as there are
abbrev pub part_of : List ℕ → ℕ → ℕ → List ℕ
part_of s at n = take n (drop at s)

-- d with s in place of its bytes from at on; d itself where s would pass its end
unfoldable pub copied : List ℕ → ℕ → List ℕ → List ℕ
copied d at s = when leb (at + length s) (length d) then take at d ++ s ++ drop (at + length s) d else d

-- the same, with n times the byte b for s
abbrev pub filled_with : List ℕ → ℕ → ℕ → ℕ → List ℕ
filled_with d at n b = copied d at (replicate n b)

-- pieces, one behind the other
abbrev pub concat : List (List ℕ) → List ℕ
concat [] = []
concat (piece ∷ pieces) = piece ++ concat pieces

-- the list of the n elements f 0, f 1, ..
abbrev pub tabulate : {A : Type 0} → ℕ → (ℕ → A) → List A
tabulate zero f = []
tabulate (suc n) f = f 0 ∷ tabulate n (λ i. f (suc i))
