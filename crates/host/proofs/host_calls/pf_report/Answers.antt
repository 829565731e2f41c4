use lib.ListN.{length}
use mathlib.Core.Path.{◌≡◌, refl, sym, ap, ◌∙◌}
use Rattle.common.specs.RefusalLaws.{number_some}
use Rattle.slices.specs.Slices.{copied}
use Rattle.host.proofs.HostCallLaws.{report_refused, report_short, report_made}
use borrow.Author.Rules.{rules}
use Rattle.host.proofs.host_calls.pf_report.Goals as goal

pub returns-in-Err : goal.returns-in-Err
returns-in-Err c = report_refused c.args.table.now c.args.slot c.args.report.now c.if-table-ne-TABLE_LENGTH.false c.decode_table.result _ c.decode_table.ensures c.in-Err.ensures _ (number_some c.in-Err.refusal) c.answer-in-Err.ensures

pub returns-then-report-lt-REPORT_LENGTH : goal.returns-then-report-lt-REPORT_LENGTH
returns-then-report-lt-REPORT_LENGTH c = report_short c.args.table.now c.args.slot c.args.report.now c.if-table-ne-TABLE_LENGTH.false c.decode_table.result _ c.decode_table.ensures c.in-Ok.ensures refl _ c.if-report-lt-REPORT_LENGTH.true c.answer-then-report-lt-REPORT_LENGTH.ensures

pub returns : goal.returns
returns c = let size : length c.encode_report.result ≡ 12 = search rules in
    report_made c.args.table.now c.args.slot c.args.report.now c.if-table-ne-TABLE_LENGTH.false c.decode_table.result _ c.decode_table.ensures c.in-Ok.ensures refl _ _ c.if-report-lt-REPORT_LENGTH.false c.answer-2.ensures (sym (ap length c.encode_report.ensures) ∙ size) (c.copy.ensures ∙ ap (copied c.args.report.now 0) c.encode_report.ensures)
