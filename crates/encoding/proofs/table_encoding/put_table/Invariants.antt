-- `encoding::table_encoding::put_table`: the head, and then each iteration puts one slot behind the last.
use Rattle.slices.specs.PieceLaws.{PiecesPut}
use Rattle.encoding.specs.TableEncoding.{slot_length, slots_offset, slot_bytes}
use Rattle.encoding.proofs.table_encoding.put_table.Given as goal

abbrev pub invariant-loop-k : goal.invariant-loop-k
invariant-loop-k l = PiecesPut slot_bytes slot_length l.slot-items l.initial.bytes slots_offset l.k l.bytes
