-- Definitions that must be believed: registers, status words and return addresses
-- (document 01, "The machine"; manual, "Program Status Word").
use Rattle.std.specs.Prelude.{Bool, ℕ, ◌+◌, ◌*◌, ◌/◌, ◌%◌, eqb, get_or, set, replicate}
use Rattle.alu.specs.Psl.{bit_rs}
use Rattle.common.specs.Choice.{when◌then◌else◌}
use Rattle.common.specs.declared.places.Address.{Address}
use Rattle.registers.specs.declared.cpu.Cpu.{Cpu}

-- PSU's stack pointer, and PSU with another one
abbrev pub field_sp : ℕ → ℕ
field_sp psu = psu % 8

abbrev pub with_sp : ℕ → ℕ → ℕ
with_sp psu sp = psu / 8 * 8 + sp

-- PSU with II, its bit 5, clear
abbrev pub without_ii : ℕ → ℕ
without_ii psu = psu / 64 * 64 + psu % 32

-- the bits of PSU that are stored: Flag, II and SP. Sense is never stored, and bits 4 and 3 are always zero
abbrev pub stored_psu : ℕ → ℕ
stored_psu v = v / 32 % 4 * 32 + v % 8

-- a Cpu before its first instruction: the counter there, registers, status words and return addresses zero
unfoldable pub fresh_cpu : Address → Cpu
fresh_cpu start = record { counter = start.0; registers = replicate 7 0; psu = 0; psl = 0; returns = replicate 8 0 }

-- the parts of a Cpu, by name
unfoldable pub counter_of : Cpu → Address
counter_of cpu = record { 0 = cpu.counter }

unfoldable pub psu_of : Cpu → ℕ
psu_of cpu = cpu.psu

unfoldable pub psl_of : Cpu → ℕ
psl_of cpu = cpu.psl

-- PSU with Sense, which is 1 exactly while unread input remains
unfoldable pub psu_with_sense : Cpu → Bool → ℕ
psu_with_sense cpu unread = when unread then psu_of cpu % 128 + 128 else psu_of cpu % 128

-- where register r stands among the seven: R0, then R1 to R3 of bank 0, then R1 to R3 of bank 1. Two bits name it, the last two of r
unfoldable pub register_index : ℕ → ℕ → ℕ
register_index rs r = when eqb (r % 4) 0 then 0 else r % 4 + 3 * rs

unfoldable pub register_of : Cpu → ℕ → ℕ
register_of cpu r = get_or cpu.registers (register_index (bit_rs (psl_of cpu)) r) 0

unfoldable pub return_of : Cpu → ℕ → Address
return_of cpu sp = record { 0 = get_or cpu.returns sp 0 }

-- a Cpu with one part changed
unfoldable pub with_counter : Cpu → Address → Cpu
with_counter cpu a = record { counter = a.0; registers = cpu.registers; psu = cpu.psu; psl = cpu.psl; returns = cpu.returns }

unfoldable pub with_register : Cpu → ℕ → ℕ → Cpu
with_register cpu r v =
    record {
      counter = cpu.counter;
      registers = set cpu.registers (register_index (bit_rs (psl_of cpu)) r) v;
      psu = cpu.psu;
      psl = cpu.psl;
      returns = cpu.returns;
    }

unfoldable pub with_psu : Cpu → ℕ → Cpu
with_psu cpu p = record { counter = cpu.counter; registers = cpu.registers; psu = p; psl = cpu.psl; returns = cpu.returns }

unfoldable pub with_psl : Cpu → ℕ → Cpu
with_psl cpu p = record { counter = cpu.counter; registers = cpu.registers; psu = cpu.psu; psl = p; returns = cpu.returns }

unfoldable pub with_return : Cpu → ℕ → Address → Cpu
with_return cpu sp a = record { counter = cpu.counter; registers = cpu.registers; psu = cpu.psu; psl = cpu.psl; returns = set cpu.returns sp a.0 }

-- a call adds one to SP, modulo 8, and stores the return address there
unfoldable pub call_of : Cpu → Address → Cpu
call_of cpu back =
    with_psu (with_return cpu ((field_sp (psu_of cpu) + 1) % 8) back) (with_sp (psu_of cpu) ((field_sp (psu_of cpu) + 1) % 8))

-- a return takes the counter from SP, and subtracts one from it, modulo 8
unfoldable pub return_from_call_of : Cpu → Cpu
return_from_call_of cpu =
    with_psu (with_counter cpu (return_of cpu (field_sp (psu_of cpu)))) (with_sp (psu_of cpu) ((field_sp (psu_of cpu) + 7) % 8))
