-- `pattern::reader::read`: a refused record ends the reading, an accepted one leaves it to the next (ReadingLaws.antt).
use Rattle.std.proofs.Common.{sym, ap, ◌∙◌}
use Rattle.pattern.specs.Reader.{read_of, read_result}
use Rattle.pattern.proofs.ReadingLaws.{reading_stops, after_version, after_parameters, after_code, after_input, after_end}
use Rattle.pattern.proofs.reader.read.Goals as goal

pub returns-in_default : goal.returns-in_default
unfolding read_of
returns-in_default c = reading_stops _ c.read_version-version.ensures.refusal _ c.unwrap_err.ensures

pub returns-in_default-answer : goal.returns-in_default-answer
returns-in_default-answer c = ap read_result c.in_default-answer.is
    ∙ reading_stops _ c.read_parameters-answer.ensures.refusal _ c.in_default-answer.is
    ∙ sym (after_version _ _ _ c.behind_record-from_parameters.ensures c.in-Ok.ensures.form c.read_version-version.ensures.refusal c.in-Ok.is)

pub returns-in_default-code : goal.returns-in_default-code
returns-in_default-code c = reading_stops _ c.read_code-code.ensures _ c.unwrap_err-in_default-code.ensures
    ∙ sym (
    after_version _ _ _ c.behind_record-from_parameters.ensures c.in-Ok.ensures.form c.read_version-version.ensures.refusal c.in-Ok.is
    ∙ after_parameters _ _ _ c.behind_record-from_code.ensures c.in-Ok-answer.ensures.parameters c.read_parameters-answer.ensures.refusal c.in-Ok-answer.is
    )

pub returns-in_default-input : goal.returns-in_default-input
returns-in_default-input c = reading_stops _ c.read_input-input.ensures _ c.unwrap_err-in_default-input.ensures
    ∙ sym (
    after_version _ _ _ c.behind_record-from_parameters.ensures c.in-Ok.ensures.form c.read_version-version.ensures.refusal c.in-Ok.is
    ∙ after_parameters _ _ _ c.behind_record-from_code.ensures c.in-Ok-answer.ensures.parameters c.read_parameters-answer.ensures.refusal c.in-Ok-answer.is
    ∙ after_code _ c.in-Ok-code.is _ _ c.behind_record-from_input.ensures c.read_code-code.ensures
    )

pub returns-in_default-end : goal.returns-in_default-end
returns-in_default-end c = reading_stops _ c.read_end-end.ensures _ c.unwrap_err-in_default-end.ensures
    ∙ sym (
    after_version _ _ _ c.behind_record-from_parameters.ensures c.in-Ok.ensures.form c.read_version-version.ensures.refusal c.in-Ok.is
    ∙ after_parameters _ _ _ c.behind_record-from_code.ensures c.in-Ok-answer.ensures.parameters c.read_parameters-answer.ensures.refusal c.in-Ok-answer.is
    ∙ after_code _ c.in-Ok-code.is _ _ c.behind_record-from_input.ensures c.read_code-code.ensures
    ∙ after_input _ c.in-Ok-input.is _ _ c.behind_record.ensures c.read_input-input.ensures
    )

pub returns : goal.returns
returns c = sym (
    after_version _ _ _ c.behind_record-from_parameters.ensures c.in-Ok.ensures.form c.read_version-version.ensures.refusal c.in-Ok.is
    ∙ after_parameters _ _ _ c.behind_record-from_code.ensures c.in-Ok-answer.ensures.parameters c.read_parameters-answer.ensures.refusal c.in-Ok-answer.is
    ∙ after_code _ c.in-Ok-code.is _ _ c.behind_record-from_input.ensures c.read_code-code.ensures
    ∙ after_input _ c.in-Ok-input.is _ _ c.behind_record.ensures c.read_input-input.ensures
    ∙ after_end _ c.in-Ok-end.is _ c.read_end-end.ensures
    )
