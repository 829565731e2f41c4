-- Laws that the checker has shown: reading the records that were written, and the records of an accepted file. Theorems.antt states what follows.
use Rattle.std.specs.Prelude.{ℕ, ◌≤◌, true, false, not, ◌≡◌, refl, length}
use mathlib.Core.List.{List, [], ◌∷◌, ◌++◌}
use Rattle.std.proofs.Math.Path.{sym, ap, subst⁻¹}
use Rattle.std.proofs.Common.{◌∙◌, arith, length-append, drop_of_length-le, le-ltb, eq-eqb}
use Rattle.std.proofs.Math.ListN.{get_or}
use Rattle.slices.specs.PieceLaws.{list_tabulated}
use Rattle.slices.specs.Slices.{AllBytes}
use Rattle.common.specs.RefusalLaws.{NoneHolds}
use Rattle.pattern.specs.Parameters.{is_in_range, form_of, parameters_length, parameters_body, parameters_from_bytes}
use Rattle.pattern.specs.Frame.{frame_length, record_of, body_length, body_of, record_length, behind_record, has_frame_of_length}
use Rattle.pattern.specs.Image.{ends_in_zero}
use Rattle.pattern.specs.Reader.{Accepted, from_parameters, from_code, from_input, from_end, form_in, parameters_in, parameters_of, version_length, version_conditions, parameters_conditions, code_conditions, input_conditions, end_conditions, read_of, code_body_of, input_body_of}
use Rattle.pattern.specs.Writer.{version_body, records_of}
use Rattle.pattern.specs.ParameterLaws.{form_known, parameters_length_law, parameters_decoded, parameters_encoded}
use Rattle.pattern.specs.FrameLaws.{record_length_law, record_body_length, record_has_frame, record_has_frame_of_length, record_body, record_rest, frame_body_length, bytes_behind_record, bytes_of_body, frame_split}
use Rattle.pattern.specs.ReaderLaws.{NoneRefuses, accepted_test, VersionRecord, ParametersRecord, EndRecord, AcceptedFile, accepted_file, read_form, code_body_is, input_body_is}
use Rattle.pattern.specs.declared.parameters.Parameters.{Parameters}

-- ---- reading the records of a pattern

-- the parameters come back
parameters_read : (v : Parameters) (rest : List ℕ) → parameters_in (record_of 0x42 (parameters_body v) ++ rest) ≡ v
parameters_read v rest = ap parameters_from_bytes (record_body 0x42 (parameters_body v) rest) ∙ parameters_decoded v

-- no condition holds of a record that was written
version_none : (v : Parameters) (rest : List ℕ) → NoneHolds (version_conditions (record_of 0x56 (version_body v) ++ rest))
unfolding version_conditions
version_none v rest =
    let body : body_of (record_of 0x56 (version_body v) ++ rest) ≡ version_body v = record_body 0x56 (version_body v) rest in
    (ap not (record_has_frame_of_length 0x56 (version_body v) rest), (simp body (form_known v), (simp body, tt)))

parameters_none : (v : Parameters) (rest : List ℕ) → is_in_range v ≡ true → NoneHolds (parameters_conditions (form_of v) (record_of 0x42 (parameters_body v) ++ rest))
unfolding parameters_conditions
parameters_none v rest range =
    let whole = ap (λ (n : ℕ). not (has_frame_of_length 0x42 n (record_of 0x42 (parameters_body v) ++ rest))) (sym (parameters_length_law v)) in
    let read : parameters_in (record_of 0x42 (parameters_body v) ++ rest) ≡ v = parameters_read v rest in
    (whole ∙ ap not (record_has_frame_of_length 0x42 (parameters_body v) rest), (simp (read, range), (simp (read, eq-eqb (form_of v) (form_of v) refl), tt)))

code_none : (v : Parameters) (code rest : List ℕ) → length code ≤ v.layout.window → ends_in_zero code ≡ false
    → NoneHolds (code_conditions v (record_of 0x43 code ++ rest))
unfolding code_conditions
code_none v code rest small ends = (
  ap not (record_has_frame 0x43 code rest),
  (simp (record_body_length 0x43 code rest) (le-ltb v.layout.window (length code) small), (simp (record_body 0x43 code rest) ends, tt)),
)

input_none : (v : Parameters) (input rest : List ℕ) → length input ≤ v.layout.input → NoneHolds (input_conditions v (record_of 0x49 input ++ rest))
unfolding input_conditions
input_none v input rest few =
    (ap not (record_has_frame 0x49 input rest), (simp (record_body_length 0x49 input rest) (le-ltb v.layout.input (length input) few), tt))

end_none : NoneHolds (end_conditions (record_of 0x45 [] ++ []))
unfolding end_conditions
end_none =
    (ap not (record_has_frame_of_length 0x45 [] []), (le-ltb frame_length (length (record_of 0x45 [] ++ [])) (simp (length-append, record_length_law) (omega arith)), tt))

module _ (v : Parameters) (code input : List ℕ) (range : is_in_range v ≡ true) (small : length code ≤ v.layout.window) (ends : ends_in_zero code ≡ false) (few : length input ≤ v.layout.input) where
  abbrev written_file : List ℕ
  written_file = records_of v code input

  from_parameters_law : from_parameters written_file ≡ record_of 0x42 (parameters_body v) ++ (record_of 0x43 code ++ (record_of 0x49 input ++ (record_of 0x45 [] ++ [])))
  unfolding records_of
  from_parameters_law = record_rest 0x56 (version_body v) _

  from_code_law : from_code written_file ≡ record_of 0x43 code ++ (record_of 0x49 input ++ (record_of 0x45 [] ++ []))
  from_code_law = ap behind_record from_parameters_law ∙ record_rest 0x42 (parameters_body v) _

  from_input_law : from_input written_file ≡ record_of 0x49 input ++ (record_of 0x45 [] ++ [])
  from_input_law = ap behind_record from_code_law ∙ record_rest 0x43 code _

  from_end_law : from_end written_file ≡ record_of 0x45 [] ++ []
  from_end_law = ap behind_record from_input_law ∙ record_rest 0x49 input _

  parameters_of_law : parameters_of written_file ≡ v
  parameters_of_law = ap parameters_in from_parameters_law ∙ parameters_read v _

  form_of_records : form_in written_file ≡ form_of v
  unfolding records_of
  form_of_records = ap (λ (body : List ℕ). get_or body 0 0) (record_body 0x56 (version_body v) _)

  file_accepted : NoneRefuses written_file v
  unfolding records_of
  file_accepted =
      record {
        version = version_none v _;
        parameters = subst⁻¹ (λ (form : ℕ). NoneHolds (parameters_conditions form (from_parameters written_file))) form_of_records (subst⁻¹ (λ (s : List ℕ). NoneHolds (parameters_conditions (form_of v) s)) from_parameters_law (parameters_none v _ range));
        code = subst⁻¹ (λ (w : Parameters). NoneHolds (code_conditions w (from_code written_file))) parameters_of_law (subst⁻¹ (λ (s : List ℕ). NoneHolds (code_conditions v s)) from_code_law (code_none v code _ small ends));
        input = subst⁻¹ (λ (w : Parameters). NoneHolds (input_conditions w (from_input written_file))) parameters_of_law (subst⁻¹ (λ (s : List ℕ). NoneHolds (input_conditions v s)) from_input_law (input_none v input _ few));
        end = subst⁻¹ (λ (s : List ℕ). NoneHolds (end_conditions s)) from_end_law end_none;
        same = parameters_of_law;
      }

  pub read_records : read_of written_file ≡ Accepted v
  read_records = accepted_test written_file v file_accepted

  pub code_of_records : code_body_of written_file ≡ code
  code_of_records =
      code_body_is written_file v read_records ∙ ap body_of from_code_law ∙ record_body 0x43 code _

  pub input_of_records : input_body_of written_file ≡ input
  input_of_records =
      input_body_is written_file v read_records ∙ ap body_of from_input_law ∙ record_body 0x49 input _

-- ---- the records of an accepted file

version_body_law : (s : List ℕ) (v : Parameters) → VersionRecord s → form_in s ≡ form_of v → body_of s ≡ version_body v
version_body_law s v f form =
    list_tabulated version_length (body_of s) (frame_body_length 0x56 s f.frame ∙ f.size) ∙ (λ j. form j ∷ f.board j ∷ [])

parameters_body_law : (form : ℕ) (s : List ℕ) → AllBytes s → ParametersRecord form s → body_of s ≡ parameters_body (parameters_in s)
parameters_body_law form s bytes f =
    sym (parameters_encoded (body_of s) (frame_body_length 0x42 s f.frame ∙ f.size ∙ ap parameters_length (sym f.same_form)) (bytes_of_body s bytes))

end_alone : (s : List ℕ) → AllBytes s → EndRecord s → s ≡ record_of 0x45 [] ++ []
unfolding behind_record
end_alone s bytes f =
    let body : body_of s ≡ [] = list_tabulated 0 (body_of s) (frame_body_length 0x45 s f.frame ∙ f.size) in
    frame_split 0x45 s bytes f.frame ∙ (λ j. record_of 0x45 (body j) ++ no_rest s f.size f.ends j)
  where
    no_rest : (s : List ℕ) → body_length s ≡ 0 → length s ≡ frame_length → behind_record s ≡ []
    no_rest s e ends = drop_of_length-le s {i = record_length s} (omega arith)

-- an accepted file is the records of its parameters and bodies
module _ (s : List ℕ) (v : Parameters) (bytes : AllBytes s) (accepted : read_of s ≡ Accepted v) where
  abbrev as_accepted : AcceptedFile s v
  as_accepted = accepted_file s v accepted

  abbrev parameters_are_bytes : AllBytes (from_parameters s)
  parameters_are_bytes = bytes_behind_record s bytes

  abbrev code_are_bytes : AllBytes (from_code s)
  code_are_bytes = bytes_behind_record (from_parameters s) parameters_are_bytes

  abbrev input_are_bytes : AllBytes (from_input s)
  input_are_bytes = bytes_behind_record (from_code s) code_are_bytes

  input_part : from_input s ≡ record_of 0x49 (input_body_of s) ++ (record_of 0x45 [] ++ [])
  input_part =
      frame_split 0x49 (from_input s) input_are_bytes as_accepted.input.frame
      ∙ ap (λ (l : List ℕ). record_of 0x49 (body_of (from_input s)) ++ l) (end_alone (from_end s) (bytes_behind_record (from_input s) input_are_bytes) as_accepted.end)
      ∙ ap (λ (l : List ℕ). record_of 0x49 l ++ (record_of 0x45 [] ++ [])) (sym (input_body_is s v accepted))

  code_part : from_code s ≡ record_of 0x43 (code_body_of s) ++ (record_of 0x49 (input_body_of s) ++ (record_of 0x45 [] ++ []))
  code_part =
      frame_split 0x43 (from_code s) code_are_bytes as_accepted.code.frame
      ∙ ap (λ (l : List ℕ). record_of 0x43 (body_of (from_code s)) ++ l) input_part
      ∙ ap (λ (l : List ℕ). record_of 0x43 l ++ (record_of 0x49 (input_body_of s) ++ (record_of 0x45 [] ++ []))) (sym (code_body_is s v accepted))

  parameters_part : from_parameters s ≡ record_of 0x42 (parameters_body v) ++ (record_of 0x43 (code_body_of s) ++ (record_of 0x49 (input_body_of s) ++ (record_of 0x45 [] ++ [])))
  parameters_part =
      frame_split 0x42 (from_parameters s) parameters_are_bytes as_accepted.parameters.frame
      ∙ ap (λ (l : List ℕ). record_of 0x42 (body_of (from_parameters s)) ++ l) code_part
      ∙ ap (λ (l : List ℕ). record_of 0x42 l ++ (record_of 0x43 (code_body_of s) ++ (record_of 0x49 (input_body_of s) ++ (record_of 0x45 [] ++ []))))
      (parameters_body_law (form_in s) (from_parameters s) parameters_are_bytes as_accepted.parameters ∙ ap parameters_body as_accepted.same)

  pub records_again : records_of v (code_body_of s) (input_body_of s) ≡ s
  unfolding records_of
  records_again =
      sym (
      frame_split 0x56 s bytes as_accepted.version.frame
      ∙ ap (λ (l : List ℕ). record_of 0x56 (body_of s) ++ l) parameters_part
      ∙ ap (λ (l : List ℕ). record_of 0x56 l ++ (record_of 0x42 (parameters_body v) ++ (record_of 0x43 (code_body_of s) ++ (record_of 0x49 (input_body_of s) ++ (record_of 0x45 [] ++ [])))))
      (version_body_law s v as_accepted.version (read_form s v accepted))
      )
