-- `supervisor::loading::load_slot`: the patch of an accepted file.
use Rattle.std.proofs.Common.{ℕ, List, ap, arith, length}
use Rattle.pattern.specs.ReaderLaws.{accepted_fact, input_fits, read_ranges}
use Rattle.supervisor.specs.Loading.{partition_for, load_patch}
use Rattle.system.specs.System.{patched}
use Rattle.table.specs.Table.{with_slot}
use Rattle.supervisor.proofs.loading.load_slot.Goals as goal

pub overflow_cast-input : goal.overflow_cast-input
overflow_cast-input c = let start = c.args in
    omega (arith, ap (λ (l : List ℕ). length l) c.input_body-input.ensures, input_fits start.file.now start.parameters c.requires, (read_ranges start.file.now start.parameters c.requires).layout.input.fits)

pub returns : goal.returns
unfolding partition_for patched load_patch with_slot
returns c = let start = c.args in
    rw ((accepted_fact start.file.now start.parameters c.requires).same, c.with_slot.ensures, c.fresh_state-state.ensures, c.put_fresh_bytes.ensures, c.input_body-input.ensures, c.partition_for-partition.ensures)
