-- Definitions that must be believed: a record is a two-byte mark, a two-byte length, a body.
use Rattle.std.specs.Prelude.{ℕ, ◌+◌, Bool, ◌&&◌, List, [], ◌∷◌, ◌++◌, length, get_or, drop, leb, eqb}
use Rattle.common.specs.Tests.{all}
use Rattle.slices.specs.Numbers.{u16_bytes, u16_at}
use Rattle.slices.specs.Slices.{part_of}
use Rattle.pattern.specs.declared.frame.Mark.{Mark}
use Rattle.pattern.specs.declared.frame.Mark.TheVariants as marks

-- the second byte of each mark; the first is `P` (50h)
abbrev pub mark_number : Mark → ℕ
mark_number marks.Version = 0x56
mark_number marks.Parameters = 0x42
mark_number marks.Code = 0x43
mark_number marks.Input = 0x49
mark_number marks.End = 0x45

-- how many bytes stand in front of a body
abbrev pub frame_length : ℕ
frame_length = 4

-- the record of the mark `P` (50h) and m, with that body
unfoldable pub record_of : ℕ → List ℕ → List ℕ
record_of m body = (0x50 ∷ m ∷ u16_bytes (length body)) ++ body

-- of the record at the front of s: the length that it gives its body, the body, its whole length, and what follows it
unfoldable pub body_length : List ℕ → ℕ
body_length s = u16_at s 2

unfoldable pub body_of : List ℕ → List ℕ
body_of s = part_of s frame_length (body_length s)

abbrev pub record_length : List ℕ → ℕ
record_length s = body_length s + frame_length

unfoldable pub behind_record : List ℕ → List ℕ
behind_record s = drop (record_length s) s

-- the record at the front of s has the mark `P` and m, and its body is inside s
unfoldable pub has_frame : ℕ → List ℕ → Bool
has_frame m s = all (eqb (get_or s 0 0) 0x50 ∷ eqb (get_or s 1 0) m ∷ leb (record_length s) (length s) ∷ [])

-- the same, with a body of n bytes
abbrev pub has_frame_of_length : ℕ → ℕ → List ℕ → Bool
has_frame_of_length m n s = has_frame m s && eqb (body_length s) n
