-- `encoding::table_encoding::put_head`: each number is put where the one before it ends.
use Prim.Native.Nat.{◌≤◌}
use lib.ListN.{length}
use mathlib.Core.List.{[], ◌∷◌}
use mathlib.Core.Path.{refl}
use Rattle.slices.specs.Numbers.{u32_bytes}
use Rattle.slices.specs.PieceLaws.{copied_each_law}
use Rattle.encoding.specs.TableEncoding.{slots_offset, head_bytes}
use Rattle.encoding.proofs.table_encoding.put_head.Goals as goal

pub returns : goal.returns
unfolding head_bytes
returns c = let a = c.args in
    let t = a.table in
    let room : slots_offset ≤ length a.bytes.now = c.requires in
    rw (c.put_u32-3.ensures, c.put_u32-2.ensures, c.put_u32.ensures)
    (copied_each_law (
    (0, u32_bytes t.size)
    ∷ (4, u32_bytes t.free)
    ∷ (8, u32_bytes t.widest)
    ∷ []
    ) a.bytes.now 0 (refl, (refl, (refl, tt))) room)
