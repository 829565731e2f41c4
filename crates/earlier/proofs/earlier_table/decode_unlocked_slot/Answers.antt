-- `earlier::earlier_table::decode_unlocked_slot`: the three pieces are the slot's bytes with a lock of 0 (VersionLaws.antt).
use lib.ListN.{length-replicate}
use mathlib.Core.Path.{ap}
use Prim.Native.Nat.{ℕ}
use Rattle.earlier.proofs.VersionLaws.{lock_put}
use Rattle.encoding.specs.TableEncoding.{slot_length, slot_from_bytes}
use Rattle.earlier.specs.EarlierTable.{unlocked_slot_length}
use Rattle.slices.specs.SliceLaws.{part_length}
use Rattle.slices.specs.Slices.{part_of}
use Rattle.earlier.proofs.earlier_table.decode_unlocked_slot.Goals as goal

pub returns : goal.returns
returns c = let bytes = c.args.bytes.now in
    rw (c.decode_slot.ensures, c.copy-2.ensures, c.put_u16.ensures, c.copy.ensures, c.rest.ensures, c.front.ensures, c.part-own.ensures)
    (ap slot_from_bytes (lock_put (part_of bytes c.args.at unlocked_slot_length) _ (part_length bytes c.args.at unlocked_slot_length c.requires) (length-replicate {A = ℕ} slot_length 0)))
