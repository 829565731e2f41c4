-- Definitions that must be believed: instructions with a mask in their second byte (manual, "Program Status Word").
use Rattle.std.specs.Prelude.{ℕ, List}
use Rattle.steps.specs.Address.{fetch_of, if_fetched}
use Rattle.alu.specs.Alu.{test_psl_of}
use Rattle.steps.specs.Result.{StepResult, running_of, stopped_of, address_after, advanced_of}
use Rattle.registers.specs.Cpu.{psl_of, with_psl}
use Rattle.registers.specs.declared.cpu.Cpu.{Cpu}

-- an instruction of k bytes whose second byte is a mask: f gives the Cpu by that mask
unfoldable pub masked_of : Cpu → ℕ → List ℕ → (ℕ → Cpu) → StepResult
masked_of cpu k window f = if_fetched (fetch_of window (address_after cpu 1)) (stopped_of cpu 6) (λ mask. running_of (advanced_of (f mask) k))

-- CC by a test of v under the mask
unfoldable pub tested_of : Cpu → ℕ → List ℕ → ℕ → StepResult
tested_of cpu k window v = masked_of cpu k window (λ mask. with_psl cpu (test_psl_of (psl_of cpu) v mask))
