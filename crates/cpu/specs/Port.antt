-- Definitions that must be believed: the data port (document 01, "The machine"; manual, "Input/Output Facilities").
use Rattle.std.specs.Prelude.{ℕ, Bool}
use Rattle.alu.specs.Alu.{load_result_of}
use Rattle.common.specs.Choice.{when◌then◌else◌}
use Rattle.steps.specs.Result.{Take, Put, StepResult, step_result, stopped_of, advanced_of}
use Rattle.registers.specs.AluResults.{with_alu_result}
use Rattle.registers.specs.Cpu.{psl_of, register_of}
use Rattle.registers.specs.declared.cpu.Cpu.{Cpu}

-- what a step may see of the buffers: is input unread, its next byte, is the output full
pub record Ports : Type 0 where
  pub unread : Bool
  pub byte : ℕ
  pub full : Bool

-- REDD: with nothing unread, status 3
unfoldable pub read_data_of : Cpu → ℕ → Ports → ℕ → StepResult
read_data_of cpu k p r =
    when p.unread then step_result (advanced_of (with_alu_result cpu r (load_result_of (psl_of cpu) p.byte)) k) 1 Take else stopped_of cpu 3

-- WRTD: with the output full, status 4
unfoldable pub write_data_of : Cpu → ℕ → Ports → ℕ → StepResult
write_data_of cpu k p r = when p.full then stopped_of cpu 4 else step_result (advanced_of cpu k) 1 (Put (register_of cpu r))
