-- `encoding::table_encoding::put_table`: the head, and then each iteration puts one slot behind the last.
use Prim.Native.Nat.{◌+◌, ◌*◌, ◌≤◌}
use lib.ListN.{length}
use mathlib.Core.List.{map}
use mathlib.Core.Path.{◌≡◌, refl, sym, ap, ◌∙◌}
use borrow.Author.Rules.{rules}
use native.Mathlib.Omega.{arith}
use Rattle.slices.specs.SliceLaws.{copied_next, copied_all}
use Rattle.slices.specs.PieceLaws.{pieces_none, pieces_more, pieces_all, pieces_size}
use Rattle.slices.specs.Slices.{concat, copied}
use Rattle.table.specs.Table.{no_slot}
use Rattle.encoding.specs.TableEncoding.{slot_length, slots_offset, table_length, slot_bytes, head_bytes, table_bytes}
use Rattle.encoding.proofs.table_encoding.put_table.Goals as goal

pub put_head-requires : goal.put_head-requires
put_head-requires c = omega (arith, c.requires)

pub loop-k-init : goal.loop-k-init
loop-k-init c = pieces_none _ _ _ _ _

pub loop-k-preserved : goal.loop-k-preserved
loop-k-preserved c = let t = c.args.table in
    let eight : length t.slots ≡ 8 = c.well_formed.1.0.1.1.1.1.1.0.1.0.1 in
    let whole : length c.put_head.new.bytes ≡ table_length = c.put_head.auto.bytes ∙ c.requires in
    let long : length c.encode_slot.result ≡ slot_length = search rules in
    pieces_more slot_bytes slot_length t.slots c.put_head.new.bytes slots_offset c.loop-k.k c.loop-k.bytes c.loop-k.invariant no_slot _ (omega arith) (sym (ap length c.encode_slot.ensures) ∙ long) (omega arith)
    (c.copy.ensures ∙ ap (copied c.loop-k.bytes (slots_offset + slot_length * c.loop-k.k)) c.encode_slot.ensures)

pub shape_of-bytes : goal.shape_of-bytes
shape_of-bytes c = c.loop-k.invariant.kept ∙ c.put_head.auto.bytes

pub returns : goal.returns
unfolding table_bytes head_bytes
returns c = let t = c.args.table in
    let l = c.args.bytes.now in
    let eight : length t.slots ≡ 8 = c.well_formed.1.0.1.1.1.1.1.0.1.0.1 in
    let whole : length l ≡ table_length = c.requires in
    let past : length t.slots ≤ c.loop-k.k = omega arith in
    let size : length (concat (map slot_bytes t.slots)) ≡ slot_length * length t.slots = pieces_size slot_bytes slot_length t.slots c.put_head.new.bytes slots_offset c.loop-k.k c.loop-k.bytes c.loop-k.invariant past in
    copied_next l c.put_head.new.bytes c.loop-k.bytes 0 slots_offset (head_bytes t) (concat (map slot_bytes t.slots)) c.put_head.ensures
    (pieces_all slot_bytes slot_length t.slots c.put_head.new.bytes slots_offset c.loop-k.k c.loop-k.bytes c.loop-k.invariant past) refl (omega arith)
    ∙ copied_all l (table_bytes t) (omega arith)
