-- Laws that the checker has shown: the output grows by a byte for each WRTD that is carried out, and by nothing else.
use Rattle.std.specs.Prelude.{◌≡◌, ℕ, zero, suc, ◌+◌, Bool, true, false, not, ◌&&◌, ◌==◌}
use native.Mathlib.Omega.{arith}
use Rattle.common.specs.Choice.{when◌then◌else◌}
use Rattle.common.specs.Repetition.{times}
use Rattle.cpu.specs.Instruction.{instruction_step}
use Rattle.cpu.specs.Machine.{Machine, ports_of, with_effect, after_step, machine_step}
use Rattle.steps.specs.Result.{StepResult}
use Rattle.cpu.proofs.StepLaws.{step_ends}
use Rattle.cpu.specs.Endings.{Ending, continues, halts, stores, takes_input, puts_output, wants_input, finds_full, finds_locked, stops}
use Rattle.cpu.specs.WrtdSteps.{is_at_wrtd, executes_wrtd, wrtd_steps}

module _ (m : Machine) where
  -- what the instruction at the counter writes if the machine runs
  ending_written : {wrtd : Bool} {s : StepResult} → Ending m.state.cpu m.window m.locked (ports_of m) wrtd s
      → (after_step s m).state.written ≡ m.state.written + (when wrtd && not (ports_of m).full then 1 else 0)
  unfolding with_effect when◌then◌else◌
  ending_written (continues next k) = omega arith
  ending_written (halts next k) = omega arith
  ending_written (stores next a v k l h) = omega arith
  ending_written (takes_input next k h) = omega arith
  ending_written (puts_output next v k h) = rw h
  ending_written (wants_input h) = omega arith
  ending_written (finds_full h) = rw h (omega arith)
  ending_written (finds_locked a l h) = omega arith
  ending_written (stops n l h) = omega arith

  pub step_written : (machine_step m).state.written ≡ m.state.written + (when executes_wrtd m then 1 else 0)
  unfolding machine_step when◌then◌else◌
  step_written = go (m.state.status == 1)
    where
      go : (runs : Bool)
          → (when runs then after_step (instruction_step m.state.cpu m.window m.locked (ports_of m)) m else m).state.written
          ≡ m.state.written + (when runs && (is_at_wrtd m.state.cpu m.window && not (ports_of m).full) then 1 else 0)
      go true = ending_written (step_ends m.state.cpu m.window m.locked (ports_of m))
      go false = omega arith

-- after any number of steps the output has grown by the number of WRTD steps among them
pub times_written : (n : ℕ) (m : Machine) → (times n machine_step m).state.written ≡ m.state.written + wrtd_steps n m
unfolding times wrtd_steps
times_written zero m = omega arith
times_written (suc n) m =
    let s = step_written (times n machine_step m) in
    let r = times_written n m in
    omega (arith, s, r)
