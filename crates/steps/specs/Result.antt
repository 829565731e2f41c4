-- Definitions that must be believed: what a step comes to, and the ways in which one ends (document 01, "Status of a station").
use Rattle.std.specs.Prelude.{ℕ}
use Rattle.steps.specs.Address.{add_in_page}
use Rattle.alu.specs.Alu.{operation_result_of}
use Rattle.registers.specs.AluResults.{with_alu_result}
use Rattle.registers.specs.Cpu.{counter_of, psl_of, register_of, with_counter}
use Rattle.common.specs.declared.places.Address.{Address}
use Rattle.alu.specs.declared.alu.AluResult.{AluResult}
use Rattle.alu.specs.declared.alu.Operation.{Operation}
use Rattle.registers.specs.declared.cpu.Cpu.{Cpu}

-- what a step does beside the Cpu: a byte stored in the window, the input byte taken, a byte put out
pub data Effect : Type 0 where
  Nothing : Effect
  Store : Address → ℕ → Effect
  Take : Effect
  Put : ℕ → Effect

-- what a step comes to: the Cpu, document 01's status, and the effect
pub record StepResult : Type 0 where
  pub cpu : Cpu
  pub status : ℕ
  pub effect : Effect

-- a result made of its parts
abbrev pub step_result : Cpu → ℕ → Effect → StepResult
step_result cpu n x = record { cpu = cpu; status = n; effect = x }

-- status 1, and no effect but on the Cpu
abbrev pub running_of : Cpu → StepResult
running_of cpu = step_result cpu 1 Nothing

-- statuses from 3 on: nothing of the instruction takes effect, and the counter remains at its first byte
abbrev pub stopped_of : Cpu → ℕ → StepResult
stopped_of cpu n = step_result cpu n Nothing

-- the address k after the instruction's first byte
abbrev pub address_after : Cpu → ℕ → Address
address_after cpu k = add_in_page (counter_of cpu) k

-- the counter past an instruction of k bytes
unfoldable pub advanced_of : Cpu → ℕ → Cpu
advanced_of cpu k = with_counter cpu (address_after cpu k)

-- an instruction of k bytes whose result goes to register r
unfoldable pub register_changed_of : Cpu → ℕ → ℕ → AluResult → StepResult
register_changed_of cpu k r o = running_of (advanced_of (with_alu_result cpu r o) k)

-- an operation on register r and the operand b
unfoldable pub operated_of : Operation → Cpu → ℕ → ℕ → StepResult
operated_of f cpu r b = running_of (with_alu_result cpu r (operation_result_of f (psl_of cpu) (register_of cpu r) b))
