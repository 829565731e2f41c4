-- What private code is held to: what a step comes to, and an operand, in the packed form of a run. Nothing here has to be believed: the
-- contracts of `step` and `run` in crate `cpu` do not mention it.
use Rattle.std.specs.Prelude.{◌%◌, Option, Some, None}
use Rattle.registers.specs.PackedCpu.{cpu_of}
use Rattle.steps.specs.Operand.{Operand, Found, NoOperand}
use Rattle.steps.specs.Result as result
use Rattle.steps.specs.Result.{Effect, StepResult}
use Rattle.steps.specs.declared.operand.PackedOperand.{PackedOperand}
use Rattle.steps.specs.declared.result.PackedEffect.{PackedEffect}
use Rattle.steps.specs.declared.result.PackedEffect.TheVariants as packed
use Rattle.steps.specs.declared.result.PackedStep.{PackedStep}

-- views of an effect, of what a step comes to, and of an operand
abbrev pub effect_of : PackedEffect → Effect
effect_of packed.Nothing = result.Nothing
effect_of (packed.Store a v) = result.Store (record { 0 = a }) (v % 256)
effect_of packed.Take = result.Take
effect_of (packed.Put v) = result.Put (v % 256)

unfoldable pub step_result_of : PackedStep → StepResult
step_result_of n = record { cpu = cpu_of n.cpu; status = n.status; effect = effect_of n.effect }

abbrev pub operand_result_of : Option PackedOperand → Operand
operand_result_of (Some o) = Found o.byte o.address o.register (cpu_of o.cpu)
operand_result_of None = NoOperand
