-- Definitions that must be believed: a machine's state as 34 bytes. Numbers of two bytes have the high byte first, as in pattern files.
--
--   0  counter
--   2  R0, R1 to R3 of bank 0, R1 to R3 of bank 1
--   9  PSU, stored without Sense
--  10  PSL
--  11  eight return addresses
--  27  status
--  28  filled
--  30  read
--  32  written
use Rattle.std.specs.Prelude.{List, [], ◌∷◌, ℕ, ◌+◌, get_or}
use Rattle.registers.specs.declared.state.State.{State}
use Rattle.registers.specs.declared.cpu.Cpu.{Cpu}
use Rattle.slices.specs.Numbers.{u16_bytes, u16s_bytes, u16_at, u16s_at}
use Rattle.slices.specs.Slices.{concat, tabulate}

-- how many bytes a state has
abbrev pub state_length : ℕ
state_length = 34

-- the bytes of a state, one field behind the other
unfoldable pub state_bytes : State → List ℕ
state_bytes s =
    concat (
    u16_bytes s.cpu.counter
    ∷ s.cpu.registers
    ∷ (s.cpu.psu ∷ [])
    ∷ (s.cpu.psl ∷ [])
    ∷ u16s_bytes s.cpu.returns
    ∷ (s.status ∷ [])
    ∷ u16_bytes s.filled
    ∷ u16_bytes s.read
    ∷ u16_bytes s.written
    ∷ []
    )

-- the state that bytes hold
unfoldable pub registers_from_bytes : List ℕ → List ℕ
registers_from_bytes bytes = tabulate 7 (λ i. get_or bytes (2 + i) 0)

unfoldable pub returns_from_bytes : List ℕ → List ℕ
returns_from_bytes bytes = u16s_at bytes 11 8

unfoldable pub cpu_from_bytes : List ℕ → Cpu
cpu_from_bytes bytes =
    record {
      counter = u16_at bytes 0;
      registers = registers_from_bytes bytes;
      psu = get_or bytes 9 0;
      psl = get_or bytes 10 0;
      returns = returns_from_bytes bytes;
    }

unfoldable pub state_from_bytes : List ℕ → State
state_from_bytes bytes =
    record {
      cpu = cpu_from_bytes bytes;
      status = get_or bytes 27 0;
      filled = u16_at bytes 28;
      read = u16_at bytes 30;
      written = u16_at bytes 32;
    }
