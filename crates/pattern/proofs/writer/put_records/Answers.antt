-- `pattern::writer::put_records`: each record stands where the one before it ends (WritingLaws.antt).
use Rattle.std.proofs.Common.{◌≡◌, rules}
use Rattle.slices.specs.Slices.{copied}
use Rattle.pattern.specs.Parameters.{parameters_body}
use Rattle.pattern.specs.Writer.{records_of}
use Rattle.pattern.proofs.WritingLaws.{five_records}
use Rattle.pattern.proofs.writer.put_records.Goals as goal

pub returns : goal.returns
returns c = let a = c.args in
    let body : c.front.result.now ≡ parameters_body a.parameters = simp (c.front.ensures, c.parameters_length.ensures.value, c.form_of-form.ensures, c.encode_parameters-bytes.ensures) in
    let whole : c.put-5.new.self.buffer.now ≡ copied a.buffer.now 0 (records_of a.parameters a.code.now a.input.now) =
    rw (c.put-5.ensures.buffer_after, c.put-4.ensures.buffer_after, c.put-3.ensures.buffer_after, c.put-2.ensures.buffer_after, c.put.ensures.buffer_after, c.number.ensures, c.form_of-form.ensures, body)
    (five_records a.parameters a.code.now a.input.now a.buffer.now _ _ _ _ c.requires.input_in_bounds c.put.ensures.at_after (rw body at c.put-2.ensures.at_after) c.put-3.ensures.at_after c.put-4.ensures.at_after)
    in search rules
