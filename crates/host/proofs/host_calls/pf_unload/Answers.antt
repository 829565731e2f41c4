use mathlib.Core.Path.{refl}
use Rattle.supervisor.specs.Calls.{change, unload}
use Rattle.host.proofs.HostCallLaws.{call_stored}
use Rattle.host.proofs.host_calls.pf_unload.Goals as goal

pub returns : goal.returns
returns c = call_stored (change c.args.slot unload) c.args.table.now c.args.memory.now c.decode_table-before.result _ _ _ c.if-table-ne-TABLE_LENGTH.false c.decode_table-before.ensures c.unload-done.ensures 0 _ _ refl c.store_accepted.ensures.value c.store_accepted.ensures.bytes_after
