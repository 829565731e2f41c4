-- `machine::rounds::run_rounds`: each iteration adds a quantum of steps.
use mathlib.Core.Path.{◌≡◌}
use Prim.Native.Nat.{◌*◌}
use Rattle.cpu.specs.Machine.{beyond, machine_of, machine_step}
use Rattle.common.specs.Repetition.{times}
use Rattle.machine.proofs.rounds.run_rounds.Given as goal

abbrev pub invariant-loop-round : goal.invariant-loop-round
invariant-loop-round l = (machine_of l.layout l.s l.partition ≡ times (l._round * l.quantum) machine_step (machine_of l.layout l.initial.s l.initial.partition)) × (beyond l.layout l.partition ≡ beyond l.layout l.initial.partition)
