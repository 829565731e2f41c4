-- `encoding::table_encoding::encode_slot`: the state stands where the partition ends.
use Prim.Native.Nat.{ℕ}
use lib.ListN.{length, replicate, length-append}
use mathlib.Core.List.{◌++◌}
use mathlib.Core.Path.{◌≡◌, ap, sym, ◌∙◌}
use native.Mathlib.Omega.{arith}
use borrow.Author.Rules.{rules}
use Rattle.slices.specs.Slices.{copied}
use Rattle.slices.specs.SliceLaws.{copied_next, copied_all}
use Rattle.encoding.specs.StateEncoding.{state_length, state_bytes}
use Rattle.encoding.specs.TableEncoding.{partition_length, partition_bytes, slot_bytes}
use Rattle.encoding.specs.TableRoundTripLaws.{partition_length_law}
use Rattle.encoding.proofs.table_encoding.encode_slot.Goals as goal

pub returns : goal.returns
unfolding slot_bytes
returns c = let s = c.args.slot in
    let zeros = replicate {A = ℕ} 47 0 in
    let own : length c.encode_state.result ≡ state_length = search rules in
    let n : length (state_bytes s.state) ≡ state_length = sym (ap length c.encode_state.ensures.value) ∙ own in
    let whole : length (partition_bytes s.partition ++ state_bytes s.state) ≡ 47 = length-append (partition_bytes s.partition) (state_bytes s.state) ∙ (omega (arith, n, partition_length_law s.partition)) in
    copied_next zeros _ _ 0 partition_length (partition_bytes s.partition) (state_bytes s.state)
    (c.copy.ensures ∙ ap (copied zeros 0) c.encode_partition.ensures)
    (c.copy-2.ensures ∙ ap (copied c.copy.new.target partition_length) c.encode_state.ensures.value)
    (omega (arith, partition_length_law s.partition))
    (omega (arith, n, partition_length_law s.partition))
    ∙ copied_all zeros (partition_bytes s.partition ++ state_bytes s.state) whole
