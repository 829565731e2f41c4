-- `host::host_calls::pf_backlog`: the backlog of the decoded table; what it fills has at most 26 bytes (BacklogLaws.antt of queries).
use mathlib.Core.Path.{ap}
use native.Mathlib.Omega.{arith}
use Rattle.queries.proofs.BacklogLaws.{backlog_size}
use Rattle.queries.specs.Queries.{BacklogOutcome}
use Rattle.host.proofs.HostCallLaws.{backlog_made}
use Rattle.host.proofs.host_calls.pf_backlog.Goals as goal

pub overflow_cast-length : goal.overflow_cast-length
overflow_cast-length c = omega (arith, ap (λ (o : BacklogOutcome). o.size) c.in-Ok.ensures, backlog_size c.decode_table.result c.args.buffer.now)

pub returns-in-Ok : goal.returns-in-Ok
returns-in-Ok c = backlog_made c.args.table.now c.args.buffer.now _ _ _ _ c.decode_table.result c.if-table-ne-TABLE_LENGTH.false c.decode_table.ensures c.in-Ok.ensures c.answer-in-Ok.ensures

pub returns-in-Err : goal.returns-in-Err
returns-in-Err c = backlog_made c.args.table.now c.args.buffer.now _ _ _ _ c.decode_table.result c.if-table-ne-TABLE_LENGTH.false c.decode_table.ensures c.in-Err.ensures c.answer-in-Err.ensures
