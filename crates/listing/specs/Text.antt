-- Definitions that must be believed: the text of the bench run (document 01, "The bench run"). A character is its
-- number in ASCII.
use Rattle.common.specs.Choice.{when◌then◌else◌}
use Rattle.std.specs.Prelude.{List, [], ◌∷◌, ◌++◌, ℕ, ◌+◌, ◌-◌, ◌/◌, ◌%◌, ltb}
use Prim.Native.Char.{code}
use Rattle.queries.specs.Queries.{ReportAnswer}
use Rattle.listing.specs.Ascii.{ascii}

-- a digit of a number below 16; hex letters are capitals
unfoldable pub hex_digit : ℕ → ℕ
hex_digit n = when ltb n 10 then code "0" + n else code "A" + (n - 10)

-- two digits
unfoldable pub hex_byte : ℕ → List ℕ
hex_byte b = hex_digit (b / 16) ∷ hex_digit (b % 16) ∷ []

-- four digits
unfoldable pub hex_u16 : ℕ → List ℕ
hex_u16 w = hex_byte (w / 256) ++ hex_byte (w % 256)

-- a number below 100, which a status and a refusal are, in decimal
unfoldable pub decimal_digits : ℕ → List ℕ
decimal_digits n = when ltb n 10 then (code "0" + n) ∷ [] else (code "0" + n / 10) ∷ (code "0" + n % 10) ∷ []

-- a byte as a field behind another one: a space and two digits
unfoldable pub field : ℕ → List ℕ
field b = ascii " " ++ hex_byte b

-- each byte as such a field
unfoldable pub fields : List ℕ → List ℕ
fields [] = []
fields (b ∷ rest) = field b ++ fields rest

-- `refused` and the number
unfoldable pub refused_line : ℕ → List ℕ
refused_line n = ascii "refused " ++ decimal_digits n ++ ascii "\n"

-- status number, counter, PSU, PSL, R0, R1 to R3 of bank 0, R1 to R3 of bank 1
unfoldable pub report_line : ReportAnswer → List ℕ
report_line r = decimal_digits r.status ++ ascii " " ++ hex_u16 r.counter ++ fields (r.psu ∷ r.psl ∷ r.registers) ++ ascii "\n"

-- `out` and each byte; `out` alone if there is none
unfoldable pub output_line : List ℕ → List ℕ
output_line bytes = ascii "out" ++ fields bytes ++ ascii "\n"

-- both lines
unfoldable pub lines_of : ReportAnswer → List ℕ → List ℕ
lines_of r bytes = report_line r ++ output_line bytes
