-- `machine::rounds::run_rounds`: each iteration adds a quantum of steps.
use mathlib.Core.Path.{◌≡◌, refl, sym, ap, ◌∙◌}
use Prim.Native.Nat.{ℕ, ◌+◌, ◌*◌, ◌-◌}
use native.Mathlib.Nat.{add-mul, zero-mul}
use native.Mathlib.Omega.{arith}
use Rattle.cpu.specs.Machine.{Machine, machine_of, machine_step}
use Rattle.common.specs.Repetition.{times}
use Rattle.cpu.specs.RestLaws.{times_rests}
use Rattle.common.specs.RepetitionLaws.{times_zero, times_add}
use Rattle.machine.proofs.rounds.run_rounds.Goals as goal

pub loop-round-init : goal.loop-round-init
loop-round-init c = (rw (zero-mul) (sym (times_zero machine_step _)), refl)

pub loop-round-preserved : goal.loop-round-preserved
loop-round-preserved c = let args = c.args in
    let here = c.loop-round in
    let called = c.run-s in
    let before = machine_of args.layout args.state args.partition.now in
    let more : args.quantum + here._round * args.quantum ≡ (here._round + 1) * args.quantum = omega (arith, add-mul here._round 1 args.quantum) in (
      called.ensures.partition_after
          ∙ ap (times args.quantum machine_step) here.invariant.0
          ∙ sym (times_add machine_step args.quantum (here._round * args.quantum) before)
          ∙ ap (λ (n : ℕ). times n machine_step before) more,
      called.ensures.partition_unchanged ∙ here.invariant.1,
    )

-- a stopped machine would rest through the rounds that are left
pub returns-then-s-number-clause-partition_after : goal.returns-then-s-number-clause-partition_after
returns-then-s-number-clause-partition_after c = let args = c.args in
    let here = c.loop-round in
    let before = machine_of args.layout args.state args.partition.now in
    let left = args.rounds - here._round in
    let all : left + here._round ≡ args.rounds = omega arith in
    here.invariant.0
    ∙ sym (times_rests (left * args.quantum) _ (λ e. c.if-s-number.true (ap (λ (m : Machine). m.state.status) here.invariant.0 ∙ e ∙ sym c.number.ensures)))
    ∙ sym (times_add machine_step (left * args.quantum) (here._round * args.quantum) before)
    ∙ ap (λ (n : ℕ). times n machine_step before) (sym (add-mul left here._round args.quantum) ∙ ap (λ (n : ℕ). n * args.quantum) all)
