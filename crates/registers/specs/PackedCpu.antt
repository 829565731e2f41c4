-- What private code is held to: the packed form of a run as the Cpu that it stands for. Nothing here has to be believed: the contracts of
-- `step` and `run` in crate `cpu` do not mention it.
use Rattle.std.specs.Prelude.{List, [], ◌∷◌, ◌++◌, ℕ, ◌+◌, ◌*◌, ◌/◌, ◌%◌, ◌-◌, ◌^◌, eqb, get_or}
use Rattle.common.specs.Choice.{when◌then◌else◌}
use Rattle.alu.specs.Psl.{bit_rs}
use Rattle.registers.specs.CpuDefinitions.{cpu_definitions}
use Rattle.registers.specs.declared.packed_cpu.PackedCpu.{PackedCpu}
use Rattle.registers.specs.declared.cpu.Cpu.{Cpu}

-- part i of a word, in parts of w bits, and the word with another part there
abbrev pub part_at : ℕ → ℕ → ℕ → ℕ
part_at w x i = x / 2 ^ (w * i) % 2 ^ w

abbrev pub set_part : ℕ → ℕ → ℕ → ℕ → ℕ
set_part w x i v = x - x / 2 ^ (w * i) % 2 ^ w * 2 ^ (w * i) + v * 2 ^ (w * i)

-- the parts of 8 bits, and of 16
abbrev pub byte_at : ℕ → ℕ → ℕ
byte_at x i = part_at 8 x i

abbrev pub quarter_at : ℕ → ℕ → ℕ
quarter_at x i = part_at 16 x i

-- the seven bytes of a register word, and the eight quarters of two words of return addresses
unfoldable pub register_bytes : ℕ → List ℕ
register_bytes x = byte_at x 0 ∷ byte_at x 1 ∷ byte_at x 2 ∷ byte_at x 3 ∷ byte_at x 4 ∷ byte_at x 5 ∷ byte_at x 6 ∷ []

abbrev pub quarters : ℕ → List ℕ
quarters x = quarter_at x 0 ∷ quarter_at x 1 ∷ quarter_at x 2 ∷ quarter_at x 3 ∷ []

unfoldable pub return_quarters : ℕ → ℕ → List ℕ
return_quarters x y = quarters x ++ quarters y

-- the bank in use stands first in the word: with RS 1 the two banks change places
unfoldable pub in_bank_order : ℕ → List ℕ → List ℕ
in_bank_order rs l = when eqb rs 0 then l else get_or l 0 0 ∷ get_or l 4 0 ∷ get_or l 5 0 ∷ get_or l 6 0 ∷ get_or l 1 0 ∷ get_or l 2 0 ∷ get_or l 3 0 ∷ []

-- the view: total, each part cut to its size, so that no range of a word is ever asked for
unfoldable pub cpu_of : PackedCpu → Cpu
cpu_of m =
    record {
      counter = m.counter % 65536;
      registers = in_bank_order (bit_rs (m.psl % 256)) (register_bytes m.registers);
      psu = m.psu % 256;
      psl = m.psl % 256;
      returns = return_quarters m.low m.high;
    }

-- names for what the proofs of the packed form open: the view, with its lists of parts closed, and open
unfoldable pub packed_definitions : Type 0
unfolding cpu_definitions cpu_of
packed_definitions = Unit {0}

unfoldable pub view_definitions : Type 0
unfolding packed_definitions register_bytes return_quarters
view_definitions = Unit {0}
