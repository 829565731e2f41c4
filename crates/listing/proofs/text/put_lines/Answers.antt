use native.Mathlib.Omega.{arith}
use borrow.Author.Rules.{rules}
use Rattle.queries.specs.Queries.{report_answer}
use Rattle.listing.proofs.PutTextLaws.{lines_put}
use Rattle.listing.proofs.text.put_lines.Goals as goal

pub returns : goal.returns
returns c = let put = lines_put (report_answer c.args.report) _ c.requires.status_bound (search rules) _ _ _ _ _ _ c.requires.output_in_bounds c.put_status_and_counter.ensures c.put_psw_and_registers.ensures c.copy.ensures c.put_fields.ensures c.copy-2.ensures in record { value = put.0; text_after = put.1; value_2 = omega arith }
