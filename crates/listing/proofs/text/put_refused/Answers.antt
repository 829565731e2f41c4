use mathlib.Core.Path.{◌≡◌, ap, ◌∙◌}
use borrow.Author.Rules.{rules}
use lib.ListN.{length}
use Rattle.common.specs.Refusals.{refusal_number}
use Rattle.slices.specs.Slices.{copied}
use Rattle.listing.specs.Text.{decimal_digits}
use Rattle.listing.proofs.PutTextLaws.{refused_put}
use Rattle.listing.proofs.text.put_refused.Goals as goal

pub returns : goal.returns
returns c = let n = refusal_number c.args.refusal in
    let digits : c.decimal_digits-digits.result.items ≡ decimal_digits n = c.decimal_digits-digits.ensures ∙ ap decimal_digits c.number.ensures in
    let put = refused_put n c.len-end.result _ _ _ _ c.requires c.copy.ensures (c.len-end.ensures.value ∙ ap length digits, c.copy-2.ensures ∙ ap (copied c.copy.new.target 8) (c.deref.ensures.0 ∙ digits)) c.copy-3.ensures in
    record { value = put.0; text_after = put.1; upper_bound = search rules }
