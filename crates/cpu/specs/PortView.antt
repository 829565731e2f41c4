-- What private code is held to: what the buffers offer, as the code of a step is told it. Nothing here has to be believed: the contracts of
-- `step` and `run` do not mention it.
use Rattle.std.specs.Prelude.{slice_index}
use Rattle.cpu.specs.Port.{Ports}
use Rattle.cpu.specs.declared.port.PortView.{PortView}

unfoldable pub ports_of_view : PortView → Ports
ports_of_view o = record { unread = o.unread; byte = slice_index o.source.now o.at; full = o.full }
