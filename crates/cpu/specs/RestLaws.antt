-- Laws that the checker has shown: a running machine steps, a stopped one stays, and steps add up.
use Rattle.std.specs.Prelude.{◌≡◌, ℕ, zero, suc, ◌≢◌, refl}
use Rattle.std.proofs.Common.{eq-eqb, ne_eqb}
use Rattle.common.specs.Choice.{when◌then◌else◌}
use Rattle.cpu.specs.Instruction.{instruction_step}
use Rattle.cpu.specs.Machine.{Machine, ports_of, after_step, machine_step}
use Rattle.common.specs.Repetition.{times}

pub step_runs : (m : Machine) → m.state.status ≡ 1 → machine_step m ≡ after_step (instruction_step m.state.cpu m.window m.locked (ports_of m)) m
unfolding machine_step when◌then◌else◌
step_runs m e = rw (eq-eqb _ _ e)

-- a step at a status other than 1 changes nothing
pub step_rests : (m : Machine) → (m.state.status ≢ 1) → machine_step m ≡ m
unfolding machine_step when◌then◌else◌
step_rests m e = rw (ne_eqb _ _ e)

-- a stopped machine stays
pub times_rests : (n : ℕ) (m : Machine) → (m.state.status ≢ 1) → times n machine_step m ≡ m
unfolding times
times_rests zero m g = refl
times_rests (suc n) m g = rw (times_rests n m g) (step_rests m g)
