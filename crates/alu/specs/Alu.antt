-- Definitions that must be believed: sums, compares, tests, rotates and decimal adjust on bytes, and the PSL that each leaves
-- (document 01, "The machine"; manual, "Program Status Word" and "Detailed Processor Instructions").
use Rattle.std.specs.Prelude.{ℕ, ◌+◌, ◌-◌, ◌*◌, ◌/◌, ◌%◌, ltb, ℤ, pos, negsuc, ◌==◌, bit_and, bit_or, bit_xor, int_lt, nat_eq, nat_lt}
use Rattle.common.specs.Choice.{when◌then◌else◌}
use Rattle.alu.specs.Psl.{bit_c, bit_com, bit_wc, bit_idc, with_cc, with_arithmetic_bits}
use Rattle.alu.specs.declared.alu.AluResult.{AluResult}
use Rattle.alu.specs.declared.alu.Operation.{Operation}
use Rattle.alu.specs.declared.alu.Operation.TheVariants.{Lod, Eor, And, Ior, Add, Sub, Com}

-- CC of a result byte: 0 for zero, 1 for positive, 2 for negative
unfoldable pub condition_code_of : ℕ → ℕ
condition_code_of b = when b == 0 then 0 else (when ltb b 128 then 1 else 2)

-- a sum of eight bits with a carry in of 0 or 1: the byte, the carry out of bit 7, the carry out of bit 3
abbrev pub sum_of : ℕ → ℕ → ℕ → ℕ
sum_of a b k = (a + b + k) % 256

abbrev pub carry_of : ℕ → ℕ → ℕ → ℕ
carry_of a b k = (a + b + k) / 256

abbrev pub digit_carry_of : ℕ → ℕ → ℕ → ℕ
digit_carry_of a b k = (a % 16 + b % 16 + k) / 16

-- a signed byte plus 128, from 0 to 255: the sum of two signed bytes and a carry is a signed byte
-- exactly if that of the biased ones is from 128 to 383
abbrev pub biased : ℕ → ℕ
biased a = (a + 128) % 256

-- OVF is 1 exactly if the signed result is out of range
unfoldable pub overflow_of : ℕ → ℕ → ℕ → ℕ
overflow_of a b k =
    when nat_lt (biased a + biased b + k) 128 then 1
    else (when ltb (biased a + biased b + k) 384 then 0 else 1)

-- a sum as a result: the byte, and CC, IDC, OVF and C
unfoldable pub sum_result_of : ℕ → ℕ → ℕ → ℕ → AluResult
sum_result_of psl a b k =
    record {
      value = sum_of a b k;
      psl = with_arithmetic_bits psl (condition_code_of (sum_of a b k)) (digit_carry_of a b k) (overflow_of a b k) (carry_of a b k);
    }

-- the carry in: C if WC is 1, else the one given
unfoldable pub carry_in_of : ℕ → ℕ → ℕ
carry_in_of psl other = when bit_wc psl == 0 then other else bit_c psl

-- a loaded byte as a result: CC alone is set
unfoldable pub load_result_of : ℕ → ℕ → AluResult
load_result_of psl v = record { value = v; psl = with_cc psl (condition_code_of v) }

-- a byte as a signed number, -128 to 127
unfoldable pub signed_of : ℕ → ℤ
signed_of b = when nat_lt b 128 then pos b else negsuc (255 - b)

-- CC of a compare, signed if COM is 0 and unsigned if it is 1: 0 equal, 1 register greater, 2 less
unfoldable pub compare_cc_of : ℕ → ℕ → ℕ → ℕ
compare_cc_of unsigned a b =
    when a == b then 0
    else (when nat_eq unsigned 0 then (when int_lt (signed_of b) (signed_of a) then 1 else 2)
    else (when ltb b a then 1 else 2))

-- the register stays, and CC tells
unfoldable pub compare_result_of : ℕ → ℕ → ℕ → AluResult
compare_result_of psl a b = record { value = a; psl = with_cc psl (compare_cc_of (bit_com psl) a b) }

-- the seven operations on a register a and an operand b. A subtraction adds the inverted operand, with carry in 1 unless WC says C
unfoldable pub operation_result_of : Operation → ℕ → ℕ → ℕ → AluResult
operation_result_of Lod psl a b = load_result_of psl b
operation_result_of Eor psl a b = load_result_of psl (bit_xor a b)
operation_result_of And psl a b = load_result_of psl (bit_and a b)
operation_result_of Ior psl a b = load_result_of psl (bit_or a b)
operation_result_of Add psl a b = sum_result_of psl a b (carry_in_of psl 0)
operation_result_of Sub psl a b = sum_result_of psl a (255 - b) (carry_in_of psl 1)
operation_result_of Com psl a b = compare_result_of psl a b

-- CC of a test under a mask: 0 if all bits of the mask are one in the value, else 2
unfoldable pub test_cc_of : ℕ → ℕ → ℕ
test_cc_of v mask = when bit_and v mask == mask then 0 else 2

-- PSL after a test: CC alone is set
unfoldable pub test_psl_of : ℕ → ℕ → ℕ → ℕ
test_psl_of psl v mask = with_cc psl (test_cc_of v mask)

-- a rotate through C: IDC takes bit 5 of the result, and OVF is 1 exactly if bit 7 changed
unfoldable pub rotate_result_of : ℕ → ℕ → ℕ → ℕ → AluResult
rotate_result_of psl a v c = record { value = v; psl = with_arithmetic_bits psl (condition_code_of v) (v / 32 % 2) ((a / 128 + v / 128) % 2) c }

-- RRL and RRR: eight bits if WC is 0, with C, IDC and OVF left; nine through C if it is 1
unfoldable pub rotate_left_of : ℕ → ℕ → AluResult
rotate_left_of psl a =
    when bit_wc psl == 0 then load_result_of psl (a % 128 * 2 + a / 128)
    else rotate_result_of psl a (a % 128 * 2 + bit_c psl) (a / 128)

unfoldable pub rotate_right_of : ℕ → ℕ → AluResult
rotate_right_of psl a =
    when bit_wc psl == 0 then load_result_of psl (a % 2 * 128 + a / 2)
    else rotate_result_of psl a (bit_c psl * 128 + a / 2) (a % 2)

-- DAR: ten is added to a digit whose carry is 0 (C for the high one, IDC for the low one), with no carry between them
unfoldable pub adjust_digit_of : ℕ → ℕ → ℕ
adjust_digit_of carry d = when carry == 0 then (d + 10) % 16 else d

unfoldable pub decimal_adjust_of : ℕ → ℕ → AluResult
decimal_adjust_of psl a = load_result_of psl (adjust_digit_of (bit_c psl) (a / 16) * 16 + adjust_digit_of (bit_idc psl) (a % 16))
