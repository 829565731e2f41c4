-- The five records written one after the other are the file, and an answer says what the buffer then holds.
use Prim.Native.Nat.{ℕ, ◌+◌, ◌≤◌}
use lib.ListN.{length}
use mathlib.Core.List.{List, [], ◌∷◌}
use mathlib.Core.Path.{◌≡◌, refl, sym, ap, ◌∙◌}
use native.Mathlib.Omega.{arith}
use Rattle.slices.specs.Slices.{copied}
use Rattle.slices.specs.SliceLaws.{copied_front}
use Rattle.slices.specs.PieceLaws.{copied_each, copied_each_law}
use Rattle.pattern.specs.Parameters.{form_of, parameters_body}
use Rattle.pattern.specs.Frame.{frame_length, record_of}
use Rattle.pattern.specs.Writer.{WriteResult, Written, version_body, smallest_length, records_of, file_of, write_of, buffer_after, written_buffer}
use Rattle.pattern.specs.ParameterLaws.{parameters_length_law}
use Rattle.pattern.specs.FrameLaws.{record_length_law}
use Rattle.pattern.specs.WriterLaws.{file_length, WriteAccepted, written_accepted}
use Rattle.pattern.specs.declared.parameters.Parameters.{Parameters}

module _ (v : Parameters) (code input d : List ℕ) (n1 n2 n3 n4 : ℕ) where
  abbrev version_record : List ℕ
  version_record = record_of 0x56 (version_body v)

  abbrev parameters_record : List ℕ
  parameters_record = record_of 0x42 (parameters_body v)

  abbrev code_record : List ℕ
  code_record = record_of 0x43 code

  abbrev input_record : List ℕ
  input_record = record_of 0x49 input

  pub five_records : smallest_length (form_of v) + length code + length input ≤ length d → n1 ≡ 0 + frame_length + length (version_body v) → n2 ≡ n1 + frame_length + length (parameters_body v)
      → n3 ≡ n2 + frame_length + length code → n4 ≡ n3 + frame_length + length input
      → copied_each d ((0, version_record) ∷ (n1, parameters_record) ∷ (n2, code_record) ∷ (n3, input_record) ∷ (n4, record_of 0x45 []) ∷ []) ≡ copied d 0 (records_of v code input)
  unfolding records_of
  five_records room e1 e2 e3 e4 =
      let l1 : length version_record ≡ length (version_body v) + frame_length = record_length_law 0x56 (version_body v) in
      let l2 : length parameters_record ≡ length (parameters_body v) + frame_length = record_length_law 0x42 (parameters_body v) in
      let l3 : length code_record ≡ length code + frame_length = record_length_law 0x43 code in
      let l4 : length input_record ≡ length input + frame_length = record_length_law 0x49 input in
      copied_each_law ((0, version_record) ∷ (n1, parameters_record) ∷ (n2, code_record) ∷ (n3, input_record) ∷ (n4, record_of 0x45 []) ∷ []) d 0
      (refl, (omega arith, (omega arith, (omega arith, (omega arith, tt)))))
      (omega (arith, file_length v code input, parameters_length_law v))

-- what an accepted writing leaves in the buffer
module _ (v : Parameters) (image input d : List ℕ) where
  pub accepted_puts : (b : List ℕ) (n : ℕ) → WriteAccepted v image input (length d) → length (file_of v image input) ≡ n
      → b ≡ copied d 0 (file_of v image input) → (Written n ≡ write_of v image input (length d)) × (b ≡ written_buffer v image input d)
  accepted_puts b n w size put =
      let e : Written (length (file_of v image input)) ≡ write_of v image input (length d) = sym (written_accepted v image input (length d) w) in (
        sym (ap Written size) ∙ e,
        put ∙ copied_front d (file_of v image input) w.fits ∙ ap (λ (x : WriteResult). buffer_after x (file_of v image input) d) e,
      )
