-- Definitions that must be believed: the steps that put a byte out (document 01, demand 2: the count of its WRTD steps).
use Rattle.std.specs.Prelude.{ℕ, zero, suc, ◌+◌, Bool, true, false, not, ◌&&◌, List, ◌==◌}
use Rattle.common.specs.Choice.{when◌then◌else◌}
use Rattle.common.specs.Repetition.{times}
use Rattle.steps.specs.Address.{fetch_of, if_fetched}
use Rattle.decode.specs.Decode.{decode_of}
use Rattle.cpu.specs.Machine.{Machine, ports_of, machine_step}
use Rattle.registers.specs.Cpu.{counter_of}
use Rattle.decode.specs.declared.decode.Instruction.{Instruction}
use Rattle.decode.specs.declared.decode.Instruction.TheVariants.{Unknown, ControlPort, ExtendedPort, Operate, Strz, Nop, Halt, Spsu, Spsl, Lpsu, Lpsl, Cpsu, Cpsl, Ppsu, Ppsl, Tpsu, Tpsl, Tmi, Dar, Rrr, Rrl, Redd, Wrtd, Retc, Rete, Branch, Zbrr, Zbsr, Bxa, Bsxa}
use Rattle.registers.specs.declared.cpu.Cpu.{Cpu}

-- the instruction is WRTD
unfoldable pub is_wrtd : Instruction → Bool
is_wrtd Unknown = false
is_wrtd ControlPort = false
is_wrtd ExtendedPort = false
is_wrtd (Operate mode access) = false
is_wrtd Strz = false
is_wrtd Nop = false
is_wrtd Halt = false
is_wrtd Spsu = false
is_wrtd Spsl = false
is_wrtd Lpsu = false
is_wrtd Lpsl = false
is_wrtd Cpsu = false
is_wrtd Cpsl = false
is_wrtd Ppsu = false
is_wrtd Ppsl = false
is_wrtd Tpsu = false
is_wrtd Tpsl = false
is_wrtd Tmi = false
is_wrtd Dar = false
is_wrtd Rrr = false
is_wrtd Rrl = false
is_wrtd Redd = false
is_wrtd Wrtd = true
is_wrtd Retc = false
is_wrtd Rete = false
is_wrtd (Branch mode kind) = false
is_wrtd Zbrr = false
is_wrtd Zbsr = false
is_wrtd Bxa = false
is_wrtd Bsxa = false

-- the instruction at the counter is WRTD
unfoldable pub is_at_wrtd : Cpu → List ℕ → Bool
is_at_wrtd cpu w = if_fetched (fetch_of w (counter_of cpu)) false (λ op. is_wrtd (decode_of op))

-- a step carries WRTD out: the machine runs, WRTD is next, and the output is not full
abbrev pub executes_wrtd : Machine → Bool
executes_wrtd m = m.state.status == 1 && (is_at_wrtd m.state.cpu m.window && not (ports_of m).full)

-- how many of n steps do so
unfoldable pub wrtd_steps : ℕ → Machine → ℕ
wrtd_steps zero m = 0
wrtd_steps (suc n) m = wrtd_steps n m + (when executes_wrtd (times n machine_step m) then 1 else 0)
