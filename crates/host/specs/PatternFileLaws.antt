-- Laws that the checker has shown: the stretch that a host is answered is the body itself, whatever the file.
use mathlib.Core.List.{List, []}
use Rattle.std.specs.Prelude.{◌≡◌, refl, ℕ, ◌+◌, ◌*◌, ◌/◌, ◌%◌, ◌≤◌, ◌<◌, length}
use Rattle.std.proofs.Common.{sym, ◌∙◌, arith}
use Rattle.std.proofs.Math.Path.{ap}
use Rattle.pattern.specs.Frame.{body_of}
use Rattle.pattern.specs.Image.{trim}
use Rattle.pattern.specs.ImageLaws.{trim_short}
use Rattle.pattern.specs.Reader.{form_in, read_of, if_accepted, code_body_of, input_body_of, code_offset, input_offset, from_code, from_input}
use Rattle.pattern.specs.ReaderLaws.{code_fits, input_fits, read_ranges, code_at, input_at, code_offset_is, input_offset_is}
use Rattle.pattern.specs.Parameters.{form_of}
use Rattle.pattern.specs.ParameterLaws.{parameters_most, range_fact}
use Rattle.pattern.specs.Writer.{smallest_length, file_of, write_of}
use Rattle.pattern.specs.WriterLaws.{accepted_written, file_length}
use Rattle.pattern.specs.Reader.{ReadResult, Accepted, Refused}
use Rattle.pattern.specs.declared.parameters.Parameters.{Parameters}
use Rattle.pattern.specs.Writer.{Written}
use Rattle.slices.specs.Slices.{part_of}
use Rattle.host.specs.PatternFiles.{stretch_of, code_stretch, input_stretch}

-- the stretch of a file that a number names
abbrev pub stretch_in : List ℕ → ℕ → List ℕ
stretch_in file n = part_of file (n / 65536) (n % 65536)

stretch_parts : (file : List ℕ) (offset n : ℕ) → n < 65536 → stretch_in file (stretch_of offset n) ≡ part_of file offset n
stretch_parts file offset n h =
    let d : (offset * 65536 + n) / 65536 ≡ offset = omega arith in
    let m : (offset * 65536 + n) % 65536 ≡ n = omega arith in
    rw (d, m)

module _ (file : List ℕ) (v : Parameters) (accepted : read_of file ≡ Accepted v) where
  -- the bodies' lengths and offsets have two bytes
  pub code_few : length (code_body_of file) ≤ 32768
  code_few = omega (arith, code_fits file v accepted, read_ranges file v accepted)

  pub input_few : length (input_body_of file) ≤ 4096
  input_few = omega (arith, input_fits file v accepted, read_ranges file v accepted)

  pub code_offset_few : code_offset file < 65536
  code_offset_few = omega (arith, code_offset_is file v accepted, parameters_most (form_in file))

  pub input_offset_few : input_offset file < 65536
  input_offset_few = omega (arith, input_offset_is file v accepted, code_offset_is file v accepted, parameters_most (form_in file), code_few)

  -- what an accepted file's stretches are
  pub code_accepted : code_stretch file ≡ stretch_of (code_offset file) (length (code_body_of file))
  unfolding code_stretch
  code_accepted = ap (λ (a : ReadResult). if_accepted a 0 (stretch_of (code_offset file) (length (code_body_of file)))) accepted

  pub input_accepted : input_stretch file ≡ stretch_of (input_offset file) (length (input_body_of file))
  unfolding input_stretch
  input_accepted = ap (λ (a : ReadResult). if_accepted a 0 (stretch_of (input_offset file) (length (input_body_of file)))) accepted

-- a refused file's are empty
module _ (file : List ℕ) (n : ℕ) (refused : read_of file ≡ Refused n) where
  pub code_refused : code_stretch file ≡ 0
  unfolding code_stretch
  code_refused = ap (λ (a : ReadResult). if_accepted a 0 (stretch_of (code_offset file) (length (code_body_of file)))) refused

  pub input_refused : input_stretch file ≡ 0
  unfolding input_stretch
  input_refused = ap (λ (a : ReadResult). if_accepted a 0 (stretch_of (input_offset file) (length (input_body_of file)))) refused

  no_code : code_body_of file ≡ []
  unfolding code_body_of
  no_code = ap (λ (a : ReadResult). if_accepted a [] (body_of (from_code file))) refused

  no_input : input_body_of file ≡ []
  unfolding input_body_of
  no_input = ap (λ (a : ReadResult). if_accepted a [] (body_of (from_input file))) refused

-- whatever the file, the stretch that a host is answered is the body
pub code_stretch_law : (file : List ℕ) → stretch_in file (code_stretch file) ≡ code_body_of file
code_stretch_law file = go (read_of file) refl
  where
    go : (a : ReadResult) → read_of file ≡ a → stretch_in file (code_stretch file) ≡ code_body_of file
    go (Refused n) e = ap (stretch_in file) (code_refused file n e) ∙ sym (no_code file n e)
    go (Accepted v) e =
        ap (stretch_in file) (code_accepted file v e)
        ∙ stretch_parts file (code_offset file) (length (code_body_of file)) (omega (arith, code_few file v e))
        ∙ code_at file v e

pub input_stretch_law : (file : List ℕ) → stretch_in file (input_stretch file) ≡ input_body_of file
input_stretch_law file = go (read_of file) refl
  where
    go : (a : ReadResult) → read_of file ≡ a → stretch_in file (input_stretch file) ≡ input_body_of file
    go (Refused n) e = ap (stretch_in file) (input_refused file n e) ∙ sym (no_input file n e)
    go (Accepted v) e =
        ap (stretch_in file) (input_accepted file v e)
        ∙ stretch_parts file (input_offset file) (length (input_body_of file)) (omega (arith, input_few file v e))
        ∙ input_at file v e

-- a written file's length has two bytes
pub file_few : (v : Parameters) (image input : List ℕ) (room n : ℕ) → write_of v image input room ≡ Written n → n < 65536
file_few v image input room n h =
    let w = accepted_written v image input room n h in
    let r = range_fact v w.0.range in
    let size : length (file_of v image input) ≡ smallest_length (form_of v) + length (trim image) + length input = file_length v (trim image) input in
    omega (arith, size, parameters_most (form_of v), trim_short image, w.1, w.0.whole, w.0.few, r.layout.window.fits, r.layout.input.fits)
