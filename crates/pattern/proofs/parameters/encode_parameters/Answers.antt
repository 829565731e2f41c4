-- `pattern::parameters::encode_parameters`: each value is put where the one before it ends.
use lib.ListN.{replicate}
use mathlib.Core.List.{[], ◌∷◌}
use mathlib.Core.Path.{refl, ◌∙◌}
use native.Mathlib.Omega.{arith}
use Rattle.slices.specs.SliceLaws.{copied_all}
use Rattle.slices.specs.Numbers.{u16_bytes}
use Rattle.slices.specs.PieceLaws.{copied_each_law}
use Rattle.pattern.specs.Parameters.{parameters_bytes}
use Rattle.pattern.proofs.parameters.encode_parameters.Goals as goal

pub returns : goal.returns
unfolding parameters_bytes
returns c = let p = c.args.parameters in
    rw (c.put_u16-5.ensures, c.put_byte.ensures, c.put_u16-4.ensures, c.put_u16-3.ensures, c.put_u16-2.ensures, c.put_u16.ensures)
    (copied_each_law ((0, u16_bytes p.layout.window) ∷ (2, u16_bytes p.layout.input) ∷ (4, u16_bytes p.layout.output) ∷ (6, u16_bytes p.start.0) ∷ (8, p.quantum ∷ []) ∷ (9, u16_bytes p.layout.locked) ∷ []) (replicate 11 0) 0
    (refl, (refl, (refl, (refl, (refl, (refl, tt)))))) (omega arith)
    ∙ copied_all (replicate 11 0) (parameters_bytes p) refl)
