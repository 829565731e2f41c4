-- Definitions that must be believed: the instruction of each first byte, as the manual's table of codes has it. Code 00 is as document 02
-- has it (U4), and the unknown codes are document 01's.
-- Codes come in 64 classes of four; the last two bits name a register or a condition, or tell four instructions apart.
use Rattle.std.specs.Prelude.{Bool, true, false, List, [], ◌∷◌, ℕ, ◌/◌, ◌%◌, eqb, get_or}
use Rattle.common.specs.Choice.{when◌then◌else◌}
use Rattle.alu.specs.declared.alu.Operation.TheVariants.{Lod, Eor, And, Ior, Add, Sub, Com}
use Rattle.decode.specs.declared.decode.Mode.{Mode}
use Rattle.decode.specs.declared.decode.Mode.TheVariants.{Register, Immediate, Relative, Absolute}
use Rattle.decode.specs.declared.decode.Access.TheVariants.{Read, Write}
use Rattle.decode.specs.declared.decode.BranchMode.{BranchMode}
use Rattle.decode.specs.declared.decode.BranchMode.TheVariants as branch
use Rattle.decode.specs.declared.decode.BranchKind.TheVariants.{Bct, Bcf, Brn, Bir, Bdr, Bst, Bsf, Bsn}
use Rattle.decode.specs.declared.decode.Instruction.{Instruction}
use Rattle.decode.specs.declared.decode.Instruction.TheVariants.{Unknown, ControlPort, ExtendedPort, Operate, Strz, Nop, Halt, Spsu, Spsl, Lpsu, Lpsl, Cpsu, Cpsl, Ppsu, Ppsl, Tpsu, Tpsl, Tmi, Dar, Rrr, Rrl, Redd, Wrtd, Retc, Rete, Branch, Zbrr, Zbsr, Bxa, Bsxa}

-- all four codes of a class alike
abbrev pub all_four : Instruction → ℕ → Instruction
all_four a r = a

-- an instruction for each of the four
unfoldable pub each_of_four : Instruction → Instruction → Instruction → Instruction → ℕ → Instruction
each_of_four a b c d r = when eqb r 0 then a else (when eqb r 1 then b else (when eqb r 2 then c else d))

-- one instruction for the first code and one for the other three; one for the first three and one for the last
unfoldable pub first_and_rest : Instruction → Instruction → ℕ → Instruction
first_and_rest a others r = when eqb r 0 then a else others

unfoldable pub rest_and_last : Instruction → Instruction → ℕ → Instruction
rest_and_last others d r = when eqb r 3 then d else others

-- the 64 classes, in the order of their codes: each gives the instruction by the last two bits
abbrev pub classes : List (ℕ → Instruction)
classes =
    all_four (Operate Register (Read Lod)) ∷  -- 00 LODZ
    all_four (Operate Immediate (Read Lod)) ∷  -- 04 LODI
    all_four (Operate Relative (Read Lod)) ∷  -- 08 LODR
    all_four (Operate Absolute (Read Lod)) ∷  -- 0C LODA
    each_of_four Unknown Unknown Spsu Spsl ∷  -- 10, 11 unknown, 12 SPSU, 13 SPSL
    all_four Retc ∷  -- 14 RETC
    all_four (Branch branch.Relative Bct) ∷  -- 18 BCTR
    all_four (Branch branch.Absolute Bct) ∷  -- 1C BCTA
    all_four (Operate Register (Read Eor)) ∷  -- 20 EORZ
    all_four (Operate Immediate (Read Eor)) ∷  -- 24 EORI
    all_four (Operate Relative (Read Eor)) ∷  -- 28 EORR
    all_four (Operate Absolute (Read Eor)) ∷  -- 2C EORA
    all_four ControlPort ∷  -- 30 REDC
    all_four Rete ∷  -- 34 RETE
    all_four (Branch branch.Relative Bst) ∷  -- 38 BSTR
    all_four (Branch branch.Absolute Bst) ∷  -- 3C BSTA
    first_and_rest Halt (Operate Register (Read And)) ∷  -- 40 HALT, 41 ANDZ
    all_four (Operate Immediate (Read And)) ∷  -- 44 ANDI
    all_four (Operate Relative (Read And)) ∷  -- 48 ANDR
    all_four (Operate Absolute (Read And)) ∷  -- 4C ANDA
    all_four Rrr ∷  -- 50 RRR
    all_four ExtendedPort ∷  -- 54 REDE
    all_four (Branch branch.Relative Brn) ∷  -- 58 BRNR
    all_four (Branch branch.Absolute Brn) ∷  -- 5C BRNA
    all_four (Operate Register (Read Ior)) ∷  -- 60 IORZ
    all_four (Operate Immediate (Read Ior)) ∷  -- 64 IORI
    all_four (Operate Relative (Read Ior)) ∷  -- 68 IORR
    all_four (Operate Absolute (Read Ior)) ∷  -- 6C IORA
    all_four Redd ∷  -- 70 REDD
    each_of_four Cpsu Cpsl Ppsu Ppsl ∷  -- 74 CPSU, 75 CPSL, 76 PPSU, 77 PPSL
    all_four (Branch branch.Relative Bsn) ∷  -- 78 BSNR
    all_four (Branch branch.Absolute Bsn) ∷  -- 7C BSNA
    all_four (Operate Register (Read Add)) ∷  -- 80 ADDZ
    all_four (Operate Immediate (Read Add)) ∷  -- 84 ADDI
    all_four (Operate Relative (Read Add)) ∷  -- 88 ADDR
    all_four (Operate Absolute (Read Add)) ∷  -- 8C ADDA
    each_of_four Unknown Unknown Lpsu Lpsl ∷  -- 90, 91 unknown, 92 LPSU, 93 LPSL
    all_four Dar ∷  -- 94 DAR
    rest_and_last (Branch branch.Relative Bcf) Zbrr ∷  -- 98 BCFR, 9B ZBRR
    rest_and_last (Branch branch.Absolute Bcf) Bxa ∷  -- 9C BCFA, 9F BXA
    all_four (Operate Register (Read Sub)) ∷  -- A0 SUBZ
    all_four (Operate Immediate (Read Sub)) ∷  -- A4 SUBI
    all_four (Operate Relative (Read Sub)) ∷  -- A8 SUBR
    all_four (Operate Absolute (Read Sub)) ∷  -- AC SUBA
    all_four ControlPort ∷  -- B0 WRTC
    each_of_four Tpsu Tpsl Unknown Unknown ∷  -- B4 TPSU, B5 TPSL, B6, B7 unknown
    rest_and_last (Branch branch.Relative Bsf) Zbsr ∷  -- B8 BSFR, BB ZBSR
    rest_and_last (Branch branch.Absolute Bsf) Bsxa ∷  -- BC BSFA, BF BSXA
    first_and_rest Nop Strz ∷  -- C0 NOP, C1 STRZ
    all_four Unknown ∷  -- C4 to C7 unknown
    all_four (Operate Relative Write) ∷  -- C8 STRR
    all_four (Operate Absolute Write) ∷  -- CC STRA
    all_four Rrl ∷  -- D0 RRL
    all_four ExtendedPort ∷  -- D4 WRTE
    all_four (Branch branch.Relative Bir) ∷  -- D8 BIRR
    all_four (Branch branch.Absolute Bir) ∷  -- DC BIRA
    all_four (Operate Register (Read Com)) ∷  -- E0 COMZ
    all_four (Operate Immediate (Read Com)) ∷  -- E4 COMI
    all_four (Operate Relative (Read Com)) ∷  -- E8 COMR
    all_four (Operate Absolute (Read Com)) ∷  -- EC COMA
    all_four Wrtd ∷  -- F0 WRTD
    all_four Tmi ∷  -- F4 TMI
    all_four (Branch branch.Relative Bdr) ∷  -- F8 BDRR
    all_four (Branch branch.Absolute Bdr) ∷  -- FC BDRA
    []

-- the first six bits say the class
unfoldable pub decode_of : ℕ → Instruction
decode_of op = get_or classes (op / 4) (all_four Unknown) (op % 4)

-- it is Unknown: no instruction has the code
unfoldable pub is_unknown : Instruction → Bool
is_unknown Unknown = true
is_unknown ControlPort = false
is_unknown ExtendedPort = false
is_unknown (Operate mode access) = false
is_unknown Strz = false
is_unknown Nop = false
is_unknown Halt = false
is_unknown Spsu = false
is_unknown Spsl = false
is_unknown Lpsu = false
is_unknown Lpsl = false
is_unknown Cpsu = false
is_unknown Cpsl = false
is_unknown Ppsu = false
is_unknown Ppsl = false
is_unknown Tpsu = false
is_unknown Tpsl = false
is_unknown Tmi = false
is_unknown Dar = false
is_unknown Rrr = false
is_unknown Rrl = false
is_unknown Redd = false
is_unknown Wrtd = false
is_unknown Retc = false
is_unknown Rete = false
is_unknown (Branch mode kind) = false
is_unknown Zbrr = false
is_unknown Zbsr = false
is_unknown Bxa = false
is_unknown Bsxa = false

-- how many bytes an instruction has: by the mode of its operand or of its branch
abbrev pub mode_length : Mode → ℕ
mode_length Register = 1
mode_length Immediate = 2
mode_length Relative = 2
mode_length Absolute = 3

abbrev pub branch_mode_length : BranchMode → ℕ
branch_mode_length branch.Relative = 2
branch_mode_length branch.Absolute = 3

-- the manual gives an unknown code no length: it counts as one byte
abbrev pub instruction_length : Instruction → ℕ
instruction_length Unknown = 1
instruction_length ControlPort = 1
instruction_length ExtendedPort = 2
instruction_length (Operate mode access) = mode_length mode
instruction_length Strz = 1
instruction_length Nop = 1
instruction_length Halt = 1
instruction_length Spsu = 1
instruction_length Spsl = 1
instruction_length Lpsu = 1
instruction_length Lpsl = 1
instruction_length Cpsu = 2
instruction_length Cpsl = 2
instruction_length Ppsu = 2
instruction_length Ppsl = 2
instruction_length Tpsu = 2
instruction_length Tpsl = 2
instruction_length Tmi = 2
instruction_length Dar = 1
instruction_length Rrr = 1
instruction_length Rrl = 1
instruction_length Redd = 1
instruction_length Wrtd = 1
instruction_length Retc = 1
instruction_length Rete = 1
instruction_length (Branch mode kind) = branch_mode_length mode
instruction_length Zbrr = 2
instruction_length Zbsr = 2
instruction_length Bxa = 3
instruction_length Bsxa = 3
