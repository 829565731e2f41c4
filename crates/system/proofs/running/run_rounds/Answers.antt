-- `system::running::run_rounds`: a slot that runs takes its quantum, and any other is left.
use Rattle.table.specs.declared.table.Table.{Table}
use Rattle.system.proofs.RunningLaws.{quantum_taken, quantum_skipped, quanta_zero, quanta_more, quanta_sound, rounds_begin, rounds_more, rounds_sound, rounds_done, start_sound}
use Rattle.system.specs.System.{System, system}
use Rattle.system.specs.PatchLaws.{slot_inside}
use Rattle.table.specs.Table.{slot_at, with_slot}
use Prim.Native.Nat.{◌<◌}
use mathlib.Core.Path.{refl, sym, ap, ◌∙◌}
use native.Mathlib.Omega.{arith}
use lib.ListN.{length}
use Rattle.system.proofs.running.run_rounds.Goals as goal
use Rattle.system.proofs.running.run_rounds.Goals.{then-s-number, else-s-number}

pub loop-round-init : goal.loop-round-init
loop-round-init c = (refl, rounds_begin _)

pub loop-k-init : goal.loop-k-init
loop-k-init c = (refl, quanta_zero _)

pub run_quantum-state-requires : goal.run_quantum-state-requires
unfolding slot_at
run_quantum-state-requires c = let outer = c.loop-round in
    let inner = c.loop-k in
    let start = c.args in
    let g = start_sound start.table start.memory.now c.requires.table_value c.requires.memory_len in
    let o = rounds_sound _ _ (system outer.next outer.memory) g outer.invariant.1 in
    let i = quanta_sound inner.k _ (system inner.next inner.memory) (omega arith) o inner.invariant.1 in
    slot_inside (system inner.next inner.memory) i inner.k (omega arith)

pub loop-k-preserved : goal.loop-k-preserved
unfolding slot_at with_slot
loop-k-preserved c = let outer = c.loop-round in
    let inner = c.loop-k in
    let start = c.args in
    let g = start_sound start.table start.memory.now c.requires.table_value c.requires.memory_len in
    let o = rounds_sound _ _ (system outer.next outer.memory) g outer.invariant.1 in
    let y : System = system inner.next inner.memory in
    let i = quanta_sound inner.k _ y (omega arith) o inner.invariant.1 in
    let q : inner.k < 8 = omega arith in
    elim c.if-s-number.branch [
      | then-s-number w ↦ (
        ap length w.memory-is ∙ w.run_quantum-state.auto.memory ∙ inner.invariant.0,
        quanta_more inner.k _ y _ inner.invariant.1
            (ap (λ (t : Table). system t c.if-s-number.memory) w.next-is
            ∙ ap (system _) w.memory-is
            ∙ quantum_taken inner.next inner.memory _ inner.k w.run_quantum-state.result w.run_quantum-state.ensures.value w.run_quantum-state.ensures.memory_after),
      )
      | else-s-number w ↦ (
        ap length w.memory-is ∙ inner.invariant.0,
        quanta_more inner.k _ y _ inner.invariant.1
            (ap (λ (t : Table). system t c.if-s-number.memory) w.next-is ∙ ap (system _) w.memory-is ∙ quantum_skipped y i inner.k q (λ e. w.if-s-number.false (e ∙ sym c.number.ensures))),
      )
    ]

pub loop-round-preserved : goal.loop-round-preserved
loop-round-preserved c = (c.loop-k.invariant.0 ∙ c.loop-round.invariant.0, rounds_more _ c.loop-k.k _ _ _ (omega arith) c.loop-round.invariant.1 c.loop-k.invariant.1)

pub returns : goal.returns
returns c = rounds_done _ _ _ _ (omega arith) c.loop-round.invariant.1
