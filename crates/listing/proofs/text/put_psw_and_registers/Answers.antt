use borrow.Author.Rules.{rules}
use Rattle.listing.proofs.PutTextLaws.{fields_put}
use Rattle.listing.proofs.text.put_psw_and_registers.Goals as goal

pub returns : goal.returns
returns c = fields_put _ _ _ _ _ _ (search rules) c.requires c.put_fields.ensures c.put_fields-2.ensures
