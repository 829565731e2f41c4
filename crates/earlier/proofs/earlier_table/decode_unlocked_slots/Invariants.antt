-- `earlier::earlier_table::decode_unlocked_slots`: each iteration reads one slot.
use Prim.Native.Nat.{◌+◌, ◌*◌}
use Rattle.slices.specs.PieceLaws.{TabulatedTo}
use Rattle.slices.specs.Slices.{part_of}
use Rattle.encoding.specs.TableEncoding.{slot_from_bytes}
use Rattle.earlier.specs.EarlierTable.{unlocked_slot_length, with_no_lock}
use Rattle.earlier.proofs.earlier_table.decode_unlocked_slots.Given as goal

abbrev pub invariant-loop-k : goal.invariant-loop-k
invariant-loop-k l = TabulatedTo 8 (λ i. slot_from_bytes (with_no_lock (part_of l.bytes (l.at + unlocked_slot_length * i) unlocked_slot_length))) l.k l.slot-items
