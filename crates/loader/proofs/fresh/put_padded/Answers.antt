-- `loader::fresh::put_padded`: the front is as long as the bytes, so that all of it is copied.
use mathlib.Core.Path.{◌≡◌, ◌∙◌}
use native.Mathlib.Omega.{arith}
use Rattle.std.proofs.Common.{rules}
use Rattle.slices.specs.SliceLaws.{copied_all}
use Rattle.loader.proofs.fresh.put_padded.Goals as goal

pub returns : goal.returns
returns c = let copied : c.copy.new.target ≡ c.args.bytes.now = c.copy.ensures ∙ copied_all _ c.args.bytes.now (omega (arith, c.split_at_mut-front.ensures.front_len, c.requires)) in
    rw copied (search rules)
