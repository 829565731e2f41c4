use lib.ListN.{length}
use native.Mathlib.Omega.{arith}
use mathlib.Core.Path.{◌≡◌}
use Prim.Native.Nat.{◌+◌}
use Rattle.supervisor.specs.Calls.{Call, change, drain}
use Rattle.system.specs.System.{system}
use Rattle.host.specs.HostCalls.{answer_of}
use Rattle.host.proofs.HostCallLaws.{call_stored, drained_few, decoded_count, buffer_drained}
use Rattle.host.proofs.host_calls.pf_drain.Goals as goal

pub overflow_cast-result : goal.overflow_cast-result
overflow_cast-result c = omega (arith, c.in-Ok.ensures.count_value, drained_few (system c.decode_table-before.result c.args.memory.now) c.args.slot (length c.args.buffer.now))

pub overflow_add-result : goal.overflow_add-result
overflow_add-result c = omega (arith, c.store_accepted.ensures.value, c.in-Ok.ensures.count_value, drained_few (system c.decode_table-before.result c.args.memory.now) c.args.slot (length c.args.buffer.now))

pub returns-in-Ok : goal.returns-in-Ok
returns-in-Ok c = let a = c.args in
    let before = c.decode_table-before.result in
    let call : Call = change a.slot (drain (length a.buffer.now)) in
    let whole = c.if-table-ne-TABLE_LENGTH.false in
    let decoded = c.decode_table-before.ensures in
    let count = c.in-Ok.drained.count in
    let counted : c.store_accepted.result + count ≡ answer_of 0 count = omega (arith, c.store_accepted.ensures.value) in
    record {
      memory_after = call_stored call a.table.now a.memory.now before _ _ _ whole decoded c.in-Ok.ensures.memory_value count _ _
          (decoded_count a.table.now a.memory.now a.slot (length a.buffer.now) _ before decoded c.in-Ok.ensures.count_value) counted c.store_accepted.ensures.bytes_after;
      buffer_after = buffer_drained a.table.now a.memory.now a.slot a.buffer.now _ before whole decoded c.in-Ok.ensures.buffer_after;
    }

pub returns-in-Err : goal.returns-in-Err
returns-in-Err c = let a = c.args in
    let before = c.decode_table-before.result in
    let call : Call = change a.slot (drain (length a.buffer.now)) in
    let whole = c.if-table-ne-TABLE_LENGTH.false in
    let decoded = c.decode_table-before.ensures in
    record {
      memory_after = call_stored call a.table.now a.memory.now before _ _ _ whole decoded c.in-Err.ensures.memory_value 0 _ _
          (decoded_count a.table.now a.memory.now a.slot (length a.buffer.now) 0 before decoded c.in-Err.ensures.count_value) c.store_accepted-in-Err.ensures.value c.store_accepted-in-Err.ensures.bytes_after;
      buffer_after = buffer_drained a.table.now a.memory.now a.slot a.buffer.now _ before whole decoded c.in-Err.ensures.buffer_after;
    }
