use Rattle.std.proofs.Common.{◌≡◌, ℕ, ◌+◌, ◌-◌, length, drop, sym, refl, ap, ◌∙◌, subst, arith}
use Rattle.cpu.proofs.PartitionLaws.{beyond_law, bounds_end_law, iteration_steps, bounds_inside, status_at, machine_by_bounds_law}
use Rattle.registers.specs.PackedCpu.{cpu_of}
use Rattle.cpu.specs.Machine.{Machine, machine_of, machine_step}
use Rattle.common.specs.Repetition.{times}
use Rattle.cpu.specs.Partition.{BoundsHold, machine_by_bounds, partition_after}
use Rattle.cpu.specs.RestLaws.{times_rests}
use Rattle.common.specs.RepetitionLaws.{times_add, times_suc}
use Rattle.registers.specs.declared.state.State.{State}
use Rattle.cpu.specs.declared.partition.Positions.{Positions}
use Rattle.registers.specs.declared.cpu.Cpu.{Cpu}
use Rattle.cpu.proofs.machine.run.Goals as goal
use Rattle.cpu.proofs.machine.run.Goals.{else-loop-test, then-loop-test+then-status-number}

pub loop-init : goal.loop-init
unfolding times
loop-init c = record { stepped = refl; fit = record { read = omega arith; written = omega arith }; beyond = refl }

pub step_in_partition-stepped-requires : goal.step_in_partition-stepped-requires
step_in_partition-stepped-requires c =
    record { bounds_inside = rw c.loop.auto.partition (bounds_inside _ _ c.bounds_of-bounds.ensures.bounds_hold); positions_fit = c.loop.invariant.fit }

pub apply_effect-positions-requires : goal.apply_effect-positions-requires
apply_effect-positions-requires c =
    record { bounds_inside = rw c.loop.auto.partition (bounds_inside _ _ c.bounds_of-bounds.ensures.bounds_hold); positions_fit = c.loop.invariant.fit }

pub loop-preserved : goal.loop-preserved
loop-preserved c = let here = c.loop in
    let start = c.bounds_of-bounds in
    let q : BoundsHold start.result (length here.partition) = subst (λ (n : ℕ). BoundsHold start.result n) (sym here.auto.partition) start.ensures.bounds_hold in
    let went = c.step_in_partition-stepped in
    let put = c.apply_effect-positions in
    record {
      stepped =
          iteration_steps c.args.state start.result here.cpu here.status here.positions here.partition q (c.if-status-number.false ∙ c.number.ensures) went.result went.ensures put.result _ put.ensures.effect_applied
          ∙ ap machine_step here.invariant.stepped
          ∙ sym (times_suc machine_step here.counter _);
      fit = put.ensures.positions_fit;
      beyond = beyond_law went.result.effect start.result here.positions here.partition _ q (partition_after put.result _) put.ensures.effect_applied ∙ here.invariant.beyond;
    }

pub returns : goal.returns
returns c = let here = c.loop in
    let args = c.args in
    let start = c.bounds_of-bounds in
    let first : Positions = record { read = args.state.read; written = args.state.written } in
    let before = machine_by_bounds args.state start.result (cpu_of c.from-cpu.result) args.state.status first args.partition.now in
    let after = machine_by_bounds args.state start.result (cpu_of here.cpu) here.status here.positions here.partition in
    let done : after ≡ times args.steps machine_step before =
    elim c.loop-test.branch [
      | else-loop-test w ↦
          let h : here.counter ≡ args.steps = omega (arith, w.loop-test.false, here.auto.counter-end) in
          here.invariant.stepped ∙ ap (λ (n : ℕ). times n machine_step before) h
      | then-loop-test+then-status-number w ↦
          let h : (args.steps - here.counter) + here.counter ≡ args.steps = omega (arith, here.auto.counter-end) in
          here.invariant.stepped
          ∙ sym (times_rests (args.steps - here.counter) _ (λ e. w.if-status-number.true (sym (status_at _ _ _ _ _ _) ∙ ap (λ (m : Machine). m.state.status) here.invariant.stepped ∙ e ∙ sym w.number.ensures)))
          ∙ sym (times_add machine_step (args.steps - here.counter) here.counter before)
          ∙ ap (λ (n : ℕ). times n machine_step before) h
    ] in
    let begun : before ≡ machine_of args.layout args.state args.partition.now =
    ap (λ (n : Cpu). machine_by_bounds args.state start.result n args.state.status first args.partition.now) c.from-cpu.ensures
    ∙ machine_by_bounds_law args.layout args.state args.state start.result _ first args.partition.now start.ensures.value refl in
    let s : State = record { cpu = c.from.result; status = here.status; filled = args.state.filled; read = here.positions.read; written = here.positions.written } in
    let last : machine_of args.layout s here.partition ≡ after =
    sym (machine_by_bounds_law args.layout args.state s start.result _ here.positions here.partition start.ensures.value refl)
    ∙ ap (λ (n : Cpu). machine_by_bounds args.state start.result n here.status here.positions here.partition) c.from.ensures in
    let past : start.result.end ≡ args.layout.window + args.layout.input + args.layout.output = bounds_end_law _ _ _ _ start.ensures.value in
    record {
      partition_after = last ∙ done ∙ ap (times args.steps machine_step) begun;
      partition_unchanged = ap (λ (n : ℕ). drop n here.partition) (sym past) ∙ here.invariant.beyond ∙ ap (λ (n : ℕ). drop n args.partition.now) past;
    }
