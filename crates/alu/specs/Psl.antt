-- Definitions that must be believed: PSL by the manual's letters, and PSL with some of them changed
-- (document 01, "The machine"; manual, "Program Status Word").
use Rattle.std.specs.Prelude.{Bool, true, false, ℕ, ◌+◌, ◌*◌, ◌/◌, ◌%◌}

-- a flag as a bit
abbrev pub bit_of : Bool → ℕ
bit_of true = 1
bit_of false = 0

-- by the manual's letters: carry, compare, with carry, register select, interdigit carry, condition code
abbrev pub bit_c : ℕ → ℕ
bit_c psl = psl % 2

abbrev pub bit_com : ℕ → ℕ
bit_com psl = psl / 2 % 2

abbrev pub bit_wc : ℕ → ℕ
bit_wc psl = psl / 8 % 2

abbrev pub bit_rs : ℕ → ℕ
bit_rs psl = psl / 16 % 2

abbrev pub bit_idc : ℕ → ℕ
bit_idc psl = psl / 32 % 2

abbrev pub field_cc : ℕ → ℕ
field_cc psl = psl / 64

-- PSL with another CC, all else left
abbrev pub with_cc : ℕ → ℕ → ℕ
with_cc psl cc = cc * 64 + psl % 64

-- PSL with another CC, IDC, OVF and C; RS, WC and COM left
abbrev pub with_arithmetic_bits : ℕ → ℕ → ℕ → ℕ → ℕ → ℕ
with_arithmetic_bits psl cc idc ovf c = cc * 64 + idc * 32 + psl / 8 % 4 * 8 + ovf * 4 + bit_com psl * 2 + c
