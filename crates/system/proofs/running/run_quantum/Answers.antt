-- `system::running::run_quantum`: the lent part is the whole partition.
use Rattle.system.proofs.RunningLaws.{quantum_state, quantum_memory}
use Rattle.common.specs.Layout.{layout_size}
use Rattle.table.specs.Table.{partition_end}
use Rattle.slices.specs.SliceLaws.{part_length}
use Prim.Native.Nat.{◌-◌, ◌≤◌}
use mathlib.Core.Path.{◌≡◌, sym, ◌∙◌}
use native.Mathlib.Omega.{arith}
use lib.ListN.{length}
use Rattle.system.proofs.running.run_quantum.Goals as goal

pub returns : goal.returns
returns c = let a = c.args in
    let p = a.slot.partition in
    let n : c.end-end.result - p.base.0 ≡ layout_size p.layout = omega (arith, c.end-end.ensures) in
    let l : partition_end p ≤ length a.memory.now = c.requires in
    let size : length c.run.new.partition ≡ layout_size p.layout = c.run.auto.partition ∙ part_length a.memory.now p.base.0 _ (omega (arith, n)) ∙ n in
    record {
      value = quantum_state a.slot a.memory.now c.run.new.partition c.run.result _ n c.requires (size ∙ sym n) c.run.ensures.partition_after;
      memory_after = quantum_memory a.slot a.memory.now c.run.new.partition c.run.result _ n c.requires (size ∙ sym n) c.run.ensures.partition_after;
    }
