-- Definitions that must be believed: what the arithmetic does to the registers (document 01, "The machine").
use Rattle.std.specs.Prelude.{ℕ}
use Rattle.registers.specs.Cpu.{with_register, with_psl}
use Rattle.alu.specs.declared.alu.AluResult.{AluResult}
use Rattle.registers.specs.declared.cpu.Cpu.{Cpu}

-- a result goes to register r, and its PSL with it
unfoldable pub with_alu_result : Cpu → ℕ → AluResult → Cpu
with_alu_result cpu r o = with_psl (with_register cpu r o.value) o.psl
