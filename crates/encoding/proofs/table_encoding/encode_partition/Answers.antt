-- `encoding::table_encoding::encode_partition`: each field is put where the one before it ends.
use lib.ListN.{replicate}
use mathlib.Core.List.{[], ◌∷◌}
use mathlib.Core.Path.{refl, ◌∙◌}
use native.Mathlib.Omega.{arith}
use Rattle.slices.specs.Numbers.{u16_bytes, u32_bytes}
use Rattle.slices.specs.SliceLaws.{copied_all}
use Rattle.slices.specs.PieceLaws.{copied_each_law}
use Rattle.encoding.specs.TableEncoding.{partition_bytes}
use Rattle.encoding.proofs.table_encoding.encode_partition.Goals as goal

pub returns : goal.returns
unfolding partition_bytes
returns c = let p = c.args.partition in
    rw (c.put_byte.ensures, c.put_u16-4.ensures, c.put_u16-3.ensures, c.put_u16-2.ensures, c.put_u16.ensures, c.put_u32.ensures)
    (copied_each_law (
    (0, u32_bytes p.base.0)
    ∷ (4, u16_bytes p.layout.window)
    ∷ (6, u16_bytes p.layout.input)
    ∷ (8, u16_bytes p.layout.output)
    ∷ (10, u16_bytes p.layout.locked)
    ∷ (12, p.quantum ∷ [])
    ∷ []
    ) (replicate 13 0) 0 (refl, (refl, (refl, (refl, (refl, (refl, tt)))))) (omega arith)
    ∙ copied_all (replicate 13 0) (partition_bytes p) refl)
