-- `queries::reporting::report`: a sound table keeps PSU below 128, so that Sense can be added (ReportingLaws.antt).
use mathlib.Core.Path.{◌≡◌, ◌∙◌, sym, refl}
use native.Mathlib.Omega.{arith}
use Rattle.std.proofs.Common.{rules, Err}
use Rattle.common.specs.Choice.{when◌then◌else◌}
use Rattle.common.specs.RefusalLaws.{number_some, refused_by_front, left_to_rest}
use Rattle.queries.specs.Queries.{query_conditions, report_of}
use Rattle.table.specs.TableConditions.{loaded_slot_conditions}
use Rattle.table.specs.TableConditionLaws.{table_numbered}
use Rattle.table.specs.Table.{slot_at}
use Rattle.queries.proofs.ReportingLaws.{psu_small, pattern_held, refused_report_law}
use Rattle.queries.proofs.reporting.report.Goals as goal

pub returns-in_err-check_table : goal.returns-in_err-check_table
returns-in_err-check_table c = let a = c.args in
    let refusal = c.in_err-check_table.field-0.0 in
    let answer : c.from_residual.result ≡ Err refusal = search rules in
    rw answer (refused_report_law a.table a.slot refusal (refused_by_front _ (loaded_slot_conditions a.table a.slot) (table_numbered a.table) c.in_err-check_table.ensures (number_some refusal)))

pub returns-in_err-check_loaded_slot : goal.returns-in_err-check_loaded_slot
returns-in_err-check_loaded_slot c = let a = c.args in
    let refusal = c.in_err-check_loaded_slot.field-0.0 in
    let answer : c.from_residual-in_err-check_loaded_slot.result ≡ Err refusal = search rules in
    rw answer (refused_report_law a.table a.slot refusal (c.in_err-check_loaded_slot.ensures ∙ sym (left_to_rest _ (loaded_slot_conditions a.table a.slot) (table_numbered a.table) c.in_ok-check_table.ensures refl)))

pub offset_bounds-table-slot : goal.offset_bounds-table-slot
offset_bounds-table-slot c = omega (arith, (pattern_held c.args.table c.args.slot c.in_ok-check_table.ensures c.in_ok-check_loaded_slot.ensures).slot)

pub bounds-table-slot : goal.bounds-table-slot
bounds-table-slot c = omega (arith, (pattern_held c.args.table c.args.slot c.in_ok-check_table.ensures c.in_ok-check_loaded_slot.ensures).slot)

pub reported_psu-requires : goal.reported_psu-requires
unfolding slot_at
reported_psu-requires c = psu_small c.args.table c.args.slot (pattern_held c.args.table c.args.slot c.in_ok-check_table.ensures c.in_ok-check_loaded_slot.ensures)

pub returns : goal.returns
unfolding report_of query_conditions slot_at when◌then◌else◌
returns c = rw (left_to_rest _ (loaded_slot_conditions c.args.table c.args.slot) (table_numbered c.args.table) c.in_ok-check_table.ensures refl, ← c.in_ok-check_loaded_slot.ensures, c.reported_psu.ensures)
