-- Definitions that must be believed: a quoted text as a list of bytes.
use mathlib.Core.List as list
use Rattle.std.specs.Prelude.{List, ℕ}
use Prim.Native.Char.{code}
use Prim.Native.String.{String, [], ◌∷◌}

-- the number of each character
abbrev pub ascii : String → List ℕ
ascii [] = list.[]
ascii (c ∷ rest) = list.◌∷◌ (code c) (ascii rest)
