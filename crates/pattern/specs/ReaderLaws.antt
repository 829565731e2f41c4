-- Laws that the checker has shown: what an accepted file is, record by record.
use Rattle.common.specs.Choice.{when◌then◌else◌}
use Rattle.std.specs.Prelude.{ℕ, ◌+◌, ◌≤◌, Bool, true, false, ◌≡◌, refl, length, take, eqb}
use mathlib.Core.List.{List, [], ◌∷◌}
use Rattle.std.proofs.Math.Path.{sym, ap}
use Rattle.std.proofs.Common.{subst, ◌∙◌, arith, eqb-true, ltb-false}
use Rattle.std.proofs.Math.ListN.{drop}
use Rattle.std.proofs.Math.Seq.{drop-drop}
use Rattle.std.proofs.lemmas.Bool.{not-false}
use Rattle.pattern.specs.Parameters.{is_in_range, form_of, parameters_length}
use Rattle.pattern.specs.Frame.{frame_length, body_length, body_of, record_length, behind_record, has_frame, has_frame_of_length}
use Rattle.pattern.specs.Image.{ends_in_zero}
use Rattle.pattern.specs.Reader.{ReadResult, Accepted, Refused, from_parameters, from_code, from_input, from_end, form_in, board_in, parameters_in, parameters_of, version_length, version_conditions, parameters_conditions, code_conditions, input_conditions, end_conditions, read_of, read_refusal, if_accepted, code_body_of, input_body_of, code_offset, input_offset}
use Rattle.common.specs.Refusals.{Condition, unless}
use Rattle.common.specs.RefusalLaws.{EachNumber, NoneHolds, NoneGivesZero, none_unless, unless_holds, unless_none}
use Rattle.slices.specs.Slices.{part_of}
use Rattle.pattern.specs.ParameterLaws.{InRange, range_fact}
use Rattle.pattern.specs.FrameLaws.{FrameHolds, has_frame_fact, has_frame_of_length_fact, frame_body_length}
use Rattle.pattern.specs.declared.parameters.Parameters.{Parameters}
use Rattle.common.specs.ConditionDefinitions.{condition_definitions}

-- a file is accepted exactly if no condition of any record holds; the answer is then the parameters in it
pub record NoneRefuses (s : List ℕ) (v : Parameters) : Type 0 where
  pub version : NoneHolds (version_conditions s)
  pub parameters : NoneHolds (parameters_conditions (form_in s) (from_parameters s))
  pub code : NoneHolds (code_conditions (parameters_of s) (from_code s))
  pub input : NoneHolds (input_conditions (parameters_of s) (from_input s))
  pub end : NoneHolds (end_conditions (from_end s))
  pub same : parameters_of s ≡ v

pub refused_accepted : {v : Parameters} (n : ℕ) → Refused n ≡ Accepted v → ⊥
refused_accepted n h = let z : ◌≡◌ {A = ℕ} 0 1 = cc in omega arith

pub accepted_same : {v w : Parameters} → Accepted v ≡ Accepted w → v ≡ w
accepted_same h = cc

pub accepted_fact : (s : List ℕ) (v : Parameters) → read_of s ≡ Accepted v → NoneRefuses s v
unfolding read_of
accepted_fact s v h =
    let a = unless_none Refused (version_conditions s) _ refused_accepted h in
    let b = unless_none Refused (parameters_conditions (form_in s) (from_parameters s)) _ refused_accepted a.1 in
    let c = unless_none Refused (code_conditions (parameters_of s) (from_code s)) _ refused_accepted b.1 in
    let d = unless_none Refused (input_conditions (parameters_of s) (from_input s)) _ refused_accepted c.1 in
    let e = unless_none Refused (end_conditions (from_end s)) _ refused_accepted d.1 in
    record { version = a.0; parameters = b.0; code = c.0; input = d.0; end = e.0; same = accepted_same e.1 }

pub accepted_test : (s : List ℕ) (v : Parameters) → NoneRefuses s v → read_of s ≡ Accepted v
unfolding read_of
accepted_test s v p =
    none_unless Refused (version_conditions s) _ p.version
    ∙ none_unless Refused (parameters_conditions (form_in s) (from_parameters s)) _ p.parameters
    ∙ none_unless Refused (code_conditions (parameters_of s) (from_code s)) _ p.code
    ∙ none_unless Refused (input_conditions (parameters_of s) (from_input s)) _ p.input
    ∙ none_unless Refused (end_conditions (from_end s)) _ p.end
    ∙ ap Accepted p.same

-- what each record at the front of a list is, where none of its conditions holds
pub record VersionRecord (s : List ℕ) : Type 0 where
  pub frame : FrameHolds 0x56 s
  pub size : body_length s ≡ version_length
  pub board : board_in s ≡ 1

pub version_record_law : (s : List ℕ) → NoneHolds (version_conditions s) → VersionRecord s
unfolding version_conditions
version_record_law s h =
    let f = has_frame_of_length_fact 0x56 version_length s (not-false (has_frame_of_length 0x56 version_length s) h.0) in
    record {
      frame = f.0;
      size = f.1;
      board = eqb-true (board_in s) 1 (not-false (eqb (board_in s) 1) h.1.1.0);
    }

pub record ParametersRecord (form : ℕ) (s : List ℕ) : Type 0 where
  pub frame : FrameHolds 0x42 s
  pub size : body_length s ≡ parameters_length form
  pub range : is_in_range (parameters_in s) ≡ true
  pub same_form : form_of (parameters_in s) ≡ form

pub parameters_record_law : (form : ℕ) (s : List ℕ) → NoneHolds (parameters_conditions form s) → ParametersRecord form s
unfolding parameters_conditions
parameters_record_law form s h =
    let f = has_frame_of_length_fact 0x42 (parameters_length form) s (not-false (has_frame_of_length 0x42 (parameters_length form) s) h.0) in
    record {
      frame = f.0;
      size = f.1;
      range = not-false (is_in_range (parameters_in s)) h.1.0;
      same_form = eqb-true (form_of (parameters_in s)) form (not-false (eqb (form_of (parameters_in s)) form) h.1.1.0);
    }

pub record CodeRecord (v : Parameters) (s : List ℕ) : Type 0 where
  pub frame : FrameHolds 0x43 s
  pub small : body_length s ≤ v.layout.window
  pub ends : ends_in_zero (body_of s) ≡ false

pub code_record_law : (v : Parameters) (s : List ℕ) → NoneHolds (code_conditions v s) → CodeRecord v s
unfolding code_conditions
code_record_law v s h =
    record {
      frame = has_frame_fact 0x43 s (not-false (has_frame 0x43 s) h.0);
      small = ltb-false v.layout.window (body_length s) h.1.0;
      ends = h.1.1.0;
    }

pub record InputRecord (v : Parameters) (s : List ℕ) : Type 0 where
  pub frame : FrameHolds 0x49 s
  pub small : body_length s ≤ v.layout.input

pub input_record_law : (v : Parameters) (s : List ℕ) → NoneHolds (input_conditions v s) → InputRecord v s
unfolding input_conditions
input_record_law v s h =
    record { frame = has_frame_fact 0x49 s (not-false (has_frame 0x49 s) h.0); small = ltb-false v.layout.input (body_length s) h.1.0 }

pub record EndRecord (s : List ℕ) : Type 0 where
  pub frame : FrameHolds 0x45 s
  pub size : body_length s ≡ 0
  pub ends : length s ≡ frame_length

pub end_record : (s : List ℕ) → NoneHolds (end_conditions s) → EndRecord s
unfolding end_conditions
end_record s h =
    let f = has_frame_of_length_fact 0x45 0 s (not-false (has_frame_of_length 0x45 0 s) h.0) in
    let last : length s ≤ frame_length = ltb-false frame_length (length s) h.1.0 in
    let room : record_length s ≤ length s = f.0.room in
    record { frame = f.0; size = f.1; ends = omega arith }

-- the whole of an accepted file
pub record AcceptedFile (s : List ℕ) (v : Parameters) : Type 0 where
  pub version : VersionRecord s
  pub parameters : ParametersRecord (form_in s) (from_parameters s)
  pub code : CodeRecord (parameters_of s) (from_code s)
  pub input : InputRecord (parameters_of s) (from_input s)
  pub end : EndRecord (from_end s)
  pub same : parameters_of s ≡ v

pub accepted_file : (s : List ℕ) (v : Parameters) → read_of s ≡ Accepted v → AcceptedFile s v
accepted_file s v h =
    let p = accepted_fact s v h in
    record {
      version = version_record_law s p.version;
      parameters = parameters_record_law (form_in s) (from_parameters s) p.parameters;
      code = code_record_law (parameters_of s) (from_code s) p.code;
      input = input_record_law (parameters_of s) (from_input s) p.input;
      end = end_record (from_end s) p.end;
      same = p.same;
    }

-- for callers that put an accepted file to use: its parameters are in range, and its bodies fit them
module _ (s : List ℕ) (v : Parameters) (accepted : read_of s ≡ Accepted v) where
  pub read_in_range : is_in_range v ≡ true
  read_in_range = let f = accepted_file s v accepted in subst (λ (w : Parameters). is_in_range w ≡ true) f.same f.parameters.range

  pub read_ranges : InRange v
  read_ranges = range_fact v read_in_range

  -- `PV` names the form of the pattern
  pub read_form : form_in s ≡ form_of v
  read_form = let f = accepted_file s v accepted in sym f.parameters.same_form ∙ ap form_of f.same

  pub code_body_is : code_body_of s ≡ body_of (from_code s)
  unfolding code_body_of
  code_body_is = ap (λ (a : ReadResult). if_accepted a [] (body_of (from_code s))) accepted

  pub input_body_is : input_body_of s ≡ body_of (from_input s)
  unfolding input_body_of
  input_body_is = ap (λ (a : ReadResult). if_accepted a [] (body_of (from_input s))) accepted

  pub code_length : length (code_body_of s) ≡ body_length (from_code s)
  code_length = ap length code_body_is ∙ frame_body_length 0x43 (from_code s) (accepted_file s v accepted).code.frame

  pub input_length : length (input_body_of s) ≡ body_length (from_input s)
  input_length = ap length input_body_is ∙ frame_body_length 0x49 (from_input s) (accepted_file s v accepted).input.frame

  pub code_fits : length (code_body_of s) ≤ v.layout.window
  code_fits =
      let f = accepted_file s v accepted in
      let small : body_length (from_code s) ≤ (parameters_of s).layout.window = f.code.small in
      let e : (parameters_of s).layout.window ≡ v.layout.window = ap (λ (w : Parameters). w.layout.window) f.same in
      omega (arith, code_length)

  pub input_fits : length (input_body_of s) ≤ v.layout.input
  input_fits =
      let f = accepted_file s v accepted in
      let small : body_length (from_input s) ≤ (parameters_of s).layout.input = f.input.small in
      let e : (parameters_of s).layout.input ≡ v.layout.input = ap (λ (w : Parameters). w.layout.input) f.same in
      omega (arith, input_length)

  -- they stand where the places say, and the places have two bytes
  pub code_at : part_of s (code_offset s) (length (code_body_of s)) ≡ code_body_of s
  unfolding body_of behind_record
  code_at =
      sym (
      code_body_is
      ∙ ap (λ (n : ℕ). part_of (from_code s) frame_length n) (sym code_length)
      ∙ ap (take (length (code_body_of s)))
      (ap (drop frame_length) (drop-drop (record_length (from_parameters s)) (record_length s) s)
      ∙ drop-drop frame_length (record_length s + record_length (from_parameters s)) s)
      )

  pub input_at : part_of s (input_offset s) (length (input_body_of s)) ≡ input_body_of s
  unfolding body_of behind_record
  input_at =
      sym (
      input_body_is
      ∙ ap (λ (n : ℕ). part_of (from_input s) frame_length n) (sym input_length)
      ∙ ap (take (length (input_body_of s)))
      (ap (λ (l : List ℕ). drop frame_length (drop (record_length (from_code s)) l)) (drop-drop (record_length (from_parameters s)) (record_length s) s)
      ∙ ap (drop frame_length) (drop-drop (record_length (from_code s)) (record_length s + record_length (from_parameters s)) s)
      ∙ drop-drop frame_length (record_length s + record_length (from_parameters s) + record_length (from_code s)) s)
      )

  pub code_offset_is : code_offset s ≡ frame_length + version_length + frame_length + parameters_length (form_in s) + frame_length
  code_offset_is =
      let f = accepted_file s v accepted in
      omega (arith, f.version.size, f.parameters.size)

  pub input_offset_is : input_offset s ≡ code_offset s + length (code_body_of s) + frame_length
  input_offset_is = omega (arith, code_length)

  pub code_ends : ends_in_zero (code_body_of s) ≡ false
  code_ends = ap ends_in_zero code_body_is ∙ (accepted_file s v accepted).code.ends

-- a refusal's number is never 0
module _ (s : List ℕ) where
  pub version_numbered : NoneGivesZero (version_conditions s)
  unfolding version_conditions
  version_numbered = (λ z. omega arith, (λ z. omega arith, (λ z. omega arith, tt)))

  pub parameters_numbered : (form : ℕ) → NoneGivesZero (parameters_conditions form s)
  unfolding parameters_conditions
  parameters_numbered form = (λ z. omega arith, (λ z. omega arith, (λ z. omega arith, tt)))

  pub code_numbered : (v : Parameters) → NoneGivesZero (code_conditions v s)
  unfolding code_conditions
  code_numbered v = (λ z. omega arith, (λ z. omega arith, (λ z. omega arith, tt)))

  pub input_numbered : (v : Parameters) → NoneGivesZero (input_conditions v s)
  unfolding input_conditions
  input_numbered v = (λ z. omega arith, (λ z. omega arith, tt))

  pub end_numbered : NoneGivesZero (end_conditions s)
  unfolding end_conditions
  end_numbered = (λ z. omega arith, (λ z. omega arith, tt))

-- so where reading gives none, the file is accepted
unless_zero : (ks : List Condition) (a : ReadResult) → NoneGivesZero ks → read_refusal (unless Refused ks a) ≡ 0 → (unless Refused ks a ≡ a) × (read_refusal a ≡ 0)
unfolding condition_definitions
unless_zero [] a n e = (refl, e)
unless_zero (k ∷ ks) a n e = go k.holds refl e (unless_zero ks a n.1)
  where
    go : (b : Bool) → k.holds ≡ b → read_refusal (when b then Refused k.number else unless Refused ks a) ≡ 0
        → (read_refusal (unless Refused ks a) ≡ 0 → (unless Refused ks a ≡ a) × (read_refusal a ≡ 0))
        → ((when b then Refused k.number else unless Refused ks a) ≡ a) × (read_refusal a ≡ 0)
    go true q e further = let p : 1 ≤ k.number = n.0 q in absurd (omega arith)
    go false q e further = further e

pub read_zero : (s : List ℕ) → read_refusal (read_of s) ≡ 0 → read_of s ≡ Accepted (parameters_of s)
unfolding read_of
read_zero s e =
    let v = unless_zero (version_conditions s) _ (version_numbered s) e in
    let p = unless_zero (parameters_conditions (form_in s) (from_parameters s)) _ (parameters_numbered (from_parameters s) (form_in s)) v.1 in
    let c = unless_zero (code_conditions (parameters_of s) (from_code s)) _ (code_numbered (from_code s) (parameters_of s)) p.1 in
    let i = unless_zero (input_conditions (parameters_of s) (from_input s)) _ (input_numbered (from_input s) (parameters_of s)) c.1 in
    let x = unless_zero (end_conditions (from_end s)) _ (end_numbered (from_end s)) i.1 in
    v.0 ∙ p.0 ∙ c.0 ∙ i.0 ∙ x.0

-- a refusal's number is at most 11
pub read_most : (s : List ℕ) → read_refusal (read_of s) ≤ 11
unfolding read_of version_conditions parameters_conditions code_conditions input_conditions end_conditions
read_most s =
    most (version_conditions s) _ (omega arith, (omega arith, (omega arith, tt)))
    (most (parameters_conditions (form_in s) (from_parameters s)) _ (omega arith, (omega arith, (omega arith, tt)))
    (most (code_conditions (parameters_of s) (from_code s)) _ (omega arith, (omega arith, (omega arith, tt)))
    (most (input_conditions (parameters_of s) (from_input s)) _ (omega arith, (omega arith, tt))
    (most (end_conditions (from_end s)) _ (omega arith, (omega arith, tt)) (omega arith)))))
  where
    most : (ks : List Condition) (a : ReadResult) → EachNumber (λ n. n ≤ 11) ks → read_refusal a ≤ 11 → read_refusal (unless Refused ks a) ≤ 11
    most ks a each last = unless_holds Refused (λ r. read_refusal r ≤ 11) ks a each last
