-- Laws that the checker has shown: which codes are no instruction, which are LODZ, and that an instruction has one to three bytes.
use Rattle.std.specs.Prelude.{[], ◌∷◌, ◌≡◌, refl, ℕ, ◌<◌, ◌/◌, ltb}
use Rattle.std.proofs.Common.{arith}
use Rattle.alu.specs.declared.alu.Operation.TheVariants.{Lod}
use Rattle.common.specs.Choice.{when◌then◌else◌}
use Rattle.common.specs.Ordering.{inserted_by, ordered_below}
use Rattle.common.specs.TestLaws.{OneTo}
use Rattle.decode.specs.Decode.{each_of_four, first_and_rest, rest_and_last, decode_of, is_unknown, mode_length, branch_mode_length, instruction_length}
use Rattle.decode.specs.declared.decode.Access.TheVariants.{Read}
use Rattle.decode.specs.declared.decode.Instruction.{Instruction}
use Rattle.decode.specs.declared.decode.Instruction.TheVariants.{Unknown, ControlPort, ExtendedPort, Operate, Strz, Nop, Halt, Spsu, Spsl, Lpsu, Lpsl, Cpsu, Cpsl, Ppsu, Ppsl, Tpsu, Tpsl, Tmi, Dar, Rrr, Rrl, Redd, Wrtd, Retc, Rete, Branch, Zbrr, Zbsr, Bxa, Bsxa}
use Rattle.decode.specs.declared.decode.Mode.{Mode}
use Rattle.decode.specs.declared.decode.Mode.TheVariants.{Register, Immediate, Relative, Absolute}
use Rattle.decode.specs.declared.decode.BranchMode.{BranchMode}
use Rattle.decode.specs.declared.decode.BranchMode.TheVariants as branch

-- the codes below 256 that are no instruction, in rising order: these ten
pub unknown_codes :
    ordered_below ltb (λ op. is_unknown (decode_of op)) 256
    ≡ 0x10 ∷ 0x11 ∷ 0x90 ∷ 0x91 ∷ 0xB6 ∷ 0xB7 ∷ 0xC4 ∷ 0xC5 ∷ 0xC6 ∷ 0xC7 ∷ []
unfolding ordered_below inserted_by when◌then◌else◌ is_unknown decode_of each_of_four first_and_rest rest_and_last
unknown_codes = refl

-- codes 00 to 03 are LODZ. The last two bits name the register that is loaded into R0: for 00, document 02's filler, it is R0 itself
pub lodz_codes : (r : ℕ) → r < 4 → decode_of r ≡ Operate Register (Read Lod)
unfolding decode_of
lodz_codes r h = let e : r / 4 ≡ 0 = omega arith in rw e

one_byte : OneTo 1 3
one_byte = record { some = omega arith; fits = omega arith }

two_bytes : OneTo 2 3
two_bytes = record { some = omega arith; fits = omega arith }

three_bytes : OneTo 3 3
three_bytes = record { some = omega arith; fits = omega arith }

mode_within : (mode : Mode) → OneTo (mode_length mode) 3
mode_within Register = one_byte
mode_within Immediate = two_bytes
mode_within Relative = two_bytes
mode_within Absolute = three_bytes

branch_within : (mode : BranchMode) → OneTo (branch_mode_length mode) 3
branch_within branch.Relative = two_bytes
branch_within branch.Absolute = three_bytes

pub length_within : (i : Instruction) → OneTo (instruction_length i) 3
length_within Unknown = one_byte
length_within ControlPort = one_byte
length_within ExtendedPort = two_bytes
length_within (Operate mode access) = mode_within mode
length_within Strz = one_byte
length_within Nop = one_byte
length_within Halt = one_byte
length_within Spsu = one_byte
length_within Spsl = one_byte
length_within Lpsu = one_byte
length_within Lpsl = one_byte
length_within Cpsu = two_bytes
length_within Cpsl = two_bytes
length_within Ppsu = two_bytes
length_within Ppsl = two_bytes
length_within Tpsu = two_bytes
length_within Tpsl = two_bytes
length_within Tmi = two_bytes
length_within Dar = one_byte
length_within Rrr = one_byte
length_within Rrl = one_byte
length_within Redd = one_byte
length_within Wrtd = one_byte
length_within Retc = one_byte
length_within Rete = one_byte
length_within (Branch mode kind) = branch_within mode
length_within Zbrr = two_bytes
length_within Zbsr = two_bytes
length_within Bxa = three_bytes
length_within Bsxa = three_bytes
