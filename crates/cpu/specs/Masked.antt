-- What private code is held to: what an instruction does with its mask, as the code is told it. Nothing here has to be believed: the
-- contracts of `step` and `run` do not mention it.
use Rattle.std.specs.Prelude.{◌≡◌, ℕ, ◌<◌}
use Rattle.registers.specs.PackedCpu.{cpu_of}
use Rattle.registers.specs.declared.cpu.Cpu.{Cpu}
use Rattle.registers.specs.declared.packed_cpu.PackedCpu.{PackedCpu}

-- the results that code may give for a mask are those of f
pub record Changes (post : ℕ → PackedCpu → Type 0) (f : ℕ → Cpu) : Type 0 where
  pub same : (mask : ℕ) → mask < 256 → (n : PackedCpu) → post mask n → cpu_of n ≡ f mask
