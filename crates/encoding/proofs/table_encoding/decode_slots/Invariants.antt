-- `encoding::table_encoding::decode_slots`: each iteration reads one slot.
use Prim.Native.Nat.{◌+◌, ◌*◌}
use Rattle.slices.specs.PieceLaws.{TabulatedTo}
use Rattle.slices.specs.Slices.{part_of}
use Rattle.encoding.specs.TableEncoding.{slot_length, slots_offset, slot_from_bytes}
use Rattle.encoding.proofs.table_encoding.decode_slots.Given as goal

abbrev pub invariant-loop-k : goal.invariant-loop-k
invariant-loop-k l = TabulatedTo 8 (λ i. slot_from_bytes (part_of l.bytes (slots_offset + slot_length * i) slot_length)) l.k l.slot-items
