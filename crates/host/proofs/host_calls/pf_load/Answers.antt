use mathlib.Core.Path.{refl, ◌∙◌}
use Rattle.supervisor.specs.Calls.{change, load}
use Rattle.host.proofs.HostCallLaws.{call_stored, location_same}
use Rattle.system.specs.System.{system}
use Rattle.host.proofs.host_calls.pf_load.Goals as goal

pub returns : goal.returns
returns c = call_stored (change c.args.slot (load (record { 0 = c.args.location }) c.args.file.now)) c.args.table.now c.args.memory.now c.decode_table-before.result _ _ _ c.if-table-ne-TABLE_LENGTH.false c.decode_table-before.ensures (c.load-done.ensures ∙ location_same (system c.decode_table-before.result c.args.memory.now) c.args.slot c.args.location c.clamp_location.result c.args.file.now c.clamp_location.ensures) 0 _ _ refl c.store_accepted.ensures.value c.store_accepted.ensures.bytes_after
