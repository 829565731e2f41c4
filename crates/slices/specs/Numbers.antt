-- Definitions that must be believed: numbers of two and of four bytes in a list of bytes, the high byte first (document 01, "Pattern file, form 1").
use Rattle.std.specs.Prelude.{ℕ, ◌+◌, ◌*◌, ◌/◌, ◌%◌, List, [], ◌∷◌, ◌++◌, map, get_or}
use Rattle.slices.specs.Slices.{concat, tabulate}

-- a number as two bytes, and as four
abbrev pub u16_bytes : ℕ → List ℕ
u16_bytes n = n / 256 ∷ n % 256 ∷ []

abbrev pub u32_bytes : ℕ → List ℕ
u32_bytes n = u16_bytes (n / 65536) ++ u16_bytes (n % 65536)

-- numbers, each as two bytes
abbrev pub u16s_bytes : List ℕ → List ℕ
u16s_bytes numbers = concat (map u16_bytes numbers)

-- the number of two bytes, and of four, at a place of s; a byte past the end counts as 0
abbrev pub u16_at : List ℕ → ℕ → ℕ
u16_at s at = get_or s at 0 * 256 + get_or s (at + 1) 0

abbrev pub u32_at : List ℕ → ℕ → ℕ
u32_at s at = u16_at s at * 65536 + u16_at s (at + 2)

-- the n numbers of two bytes from a place on
abbrev pub u16s_at : List ℕ → ℕ → ℕ → List ℕ
u16s_at s at n = tabulate n (λ i. u16_at s (at + 2 * i))
