-- `pattern::writer::write`: a refusal leaves the buffer; else the file is at its front (WritingLaws.antt).
use Prim.Native.Nat.{◌+◌}
use mathlib.Core.Path.{◌≡◌, sym, ◌∙◌}
use native.Mathlib.Omega.{arith}
use lib.ListN.{length}
use Rattle.pattern.specs.Image.{trim}
use Rattle.pattern.specs.Writer.{file_of}
use Rattle.pattern.specs.WriterLaws.{file_length}
use Rattle.pattern.proofs.WritingLaws.{accepted_puts}
use Rattle.pattern.proofs.writer.write.Goals as goal

pub returns : goal.returns
returns c = let a = c.args in
    let size : length (file_of a.parameters a.image.now a.input.now) ≡ c.smallest_length.result + length c.trim-code.result.now + length a.input.now =
    rw (c.smallest_length.ensures.value, c.form_of-form.ensures, c.trim-code.ensures) (file_length a.parameters (trim a.image.now) a.input.now)
    in
    accepted_puts a.parameters a.image.now a.input.now a.buffer.now _ (c.smallest_length.result + length c.trim-code.result.now + length a.input.now)
    (record {
      range = sym c.is_in_range.ensures ∙ c.if-not-is_in_range.false;
      whole = c.if-image-layout.false;
      few = c.if-layout-input.false;
      fits = omega (arith, c.if-buffer-total.false);
    })
    size
    (rw c.trim-code.ensures at c.put_records.ensures)
