-- Definitions that must be believed: PSU as it is reported (document 01, "Floor and bays": report).
use Rattle.std.specs.Prelude.{ℕ, ltb}
use Rattle.registers.specs.Cpu.{psu_with_sense}
use Rattle.registers.specs.declared.state.State.{State}

-- PSU with Sense, as SPSU has it
abbrev pub reported_psu : State → ℕ
reported_psu s = psu_with_sense s.cpu (ltb s.read s.filled)
