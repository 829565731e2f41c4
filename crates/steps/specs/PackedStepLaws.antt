-- Laws that the checker has shown: a byte that went through a word of an effect is that byte.
use Rattle.std.specs.Prelude.{◌≡◌, ℕ, ◌%◌}
use Rattle.std.proofs.Common.{ap, ◌∙◌}
use Rattle.steps.specs.Result.{StepResult, Store, Put, step_result}
use Rattle.common.specs.declared.places.Address.{Address}
use Rattle.registers.specs.declared.cpu.Cpu.{Cpu}

pub stored_byte : {s : StepResult} {m : Cpu} {a : Address} {v : ℕ} → v % 256 ≡ v → s ≡ step_result m 1 (Store a (v % 256)) → s ≡ step_result m 1 (Store a v)
stored_byte {m = m} {a = a} e h = h ∙ ap (λ (x : ℕ). step_result m 1 (Store a x)) e

pub put_byte_out : {s : StepResult} {m : Cpu} {v : ℕ} → v % 256 ≡ v → s ≡ step_result m 1 (Put (v % 256)) → s ≡ step_result m 1 (Put v)
put_byte_out {m = m} e h = h ∙ ap (λ (x : ℕ). step_result m 1 (Put x)) e
