-- Laws that the checker has shown: the reader of form 1 alone, as it was before form 2 (document 02, U6), turns each pattern with a locked
-- length away by 7, and answers each file of form 1 as the reader of both forms does.
use Rattle.std.specs.Prelude.{ℕ, Bool, true, false, not, List, [], ◌∷◌, ◌≡◌, refl, eqb, length, get_or}
use Rattle.std.proofs.Common.{ap, ◌∙◌, arith}
use Rattle.std.proofs.Math.ListN.{get_or-eq_default}
use Rattle.common.specs.ConditionDefinitions.{condition_definitions}
use Rattle.common.specs.Refusals.{Condition, ◌gives◌, unless}
use Rattle.slices.specs.Numbers.{u16_at}
use Rattle.pattern.specs.Parameters.{is_in_range, form_of, parameters_length, parameters_from_bytes}
use Rattle.pattern.specs.Frame.{body_of, has_frame_of_length}
use Rattle.pattern.specs.Reader.{ReadResult, Accepted, Refused, from_parameters, from_code, from_input, from_end, form_in, board_in, parameters_in, version_length, version_conditions, parameters_conditions, code_conditions, input_conditions, end_conditions, read_of}
use Rattle.pattern.specs.ParameterLaws.{form_plain, form_locked}
use Rattle.pattern.specs.FrameLaws.{has_frame_of_length_fact, frame_body_length}
use Rattle.pattern.specs.ReaderLaws.{accepted_fact, read_form}
use Rattle.pattern.specs.declared.parameters.Parameters.{Parameters}

-- ---- the reader of form 1 alone: another `PV` and another `PB`, the other records as ever

-- `PV`: form 1, board 1
abbrev pub form_one_version_conditions : List ℕ → List Condition
form_one_version_conditions s =
    not (has_frame_of_length 0x56 version_length s) gives 6
    ∷ not (eqb (form_in s) 1) gives 7
    ∷ not (eqb (board_in s) 1) gives 8
    ∷ []

-- `PB`: nine bytes, and nothing is locked
unfoldable pub form_one_parameters_from_bytes : List ℕ → Parameters
form_one_parameters_from_bytes body =
    record {
      layout = record { window = u16_at body 0; input = u16_at body 2; output = u16_at body 4; locked = 0 };
      start = record { 0 = u16_at body 6 };
      quantum = get_or body 8 0;
    }

abbrev pub form_one_parameters_in : List ℕ → Parameters
form_one_parameters_in s = form_one_parameters_from_bytes (body_of s)

abbrev pub form_one_parameters_conditions : List ℕ → List Condition
form_one_parameters_conditions s =
    not (has_frame_of_length 0x42 9 s) gives 6
    ∷ not (is_in_range (form_one_parameters_in s)) gives 9
    ∷ []

abbrev pub form_one_parameters_of : List ℕ → Parameters
form_one_parameters_of s = form_one_parameters_in (from_parameters s)

-- what it answers
unfoldable pub form_one_read_of : List ℕ → ReadResult
form_one_read_of s =
    unless Refused (form_one_version_conditions s)
    (unless Refused (form_one_parameters_conditions (from_parameters s))
    (unless Refused (code_conditions (form_one_parameters_of s) (from_code s))
    (unless Refused (input_conditions (form_one_parameters_of s) (from_input s))
    (unless Refused (end_conditions (from_end s)) (Accepted (form_one_parameters_of s))))))

-- ---- a pattern with a locked length

module _ (s : List ℕ) (v : Parameters) (accepted : read_of s ≡ Accepted v) (some : v.layout.locked ≡ 0 → ⊥) where
  -- has a file of form 2
  pub locked_form : form_in s ≡ 2
  locked_form = read_form s v accepted ∙ form_locked v some

  -- which the reader of form 1 turns away
  pub locked_refused : form_one_read_of s ≡ Refused 7
  unfolding form_one_read_of version_conditions condition_definitions
  locked_refused = simp ((accepted_fact s v accepted).version.0, locked_form)

-- ---- a file of form 1

-- in nine bytes nothing is locked
nine_bytes : (body : List ℕ) → length body ≡ 9 → parameters_from_bytes body ≡ form_one_parameters_from_bytes body
unfolding parameters_from_bytes form_one_parameters_from_bytes
nine_bytes body size = simp (get_or-eq_default body 0 {n = 9} (omega arith), get_or-eq_default body 0 {n = 10} (omega arith))

one_form : (body : List ℕ) → form_of (form_one_parameters_from_bytes body) ≡ 1
unfolding form_one_parameters_from_bytes
one_form body = form_plain (form_one_parameters_from_bytes body) refl

-- `PB` is read alike
parameters_alike : (p : List ℕ) (next : Parameters → ReadResult)
    → unless Refused (form_one_parameters_conditions p) (next (form_one_parameters_in p)) ≡ unless Refused (parameters_conditions 1 p) (next (parameters_in p))
unfolding parameters_conditions parameters_length condition_definitions
parameters_alike p next = go (has_frame_of_length 0x42 9 p) refl
  where
    go : (b : Bool) → has_frame_of_length 0x42 9 p ≡ b
        → unless Refused (form_one_parameters_conditions p) (next (form_one_parameters_in p)) ≡ unless Refused (parameters_conditions 1 p) (next (parameters_in p))
    go false e = simp e
    go true e =
        let f = has_frame_of_length_fact 0x42 9 p e in
        let same : parameters_in p ≡ form_one_parameters_in p = nine_bytes (body_of p) (frame_body_length 0x42 p f.0 ∙ f.1) in
        simp (e, same, one_form (body_of p))

-- so that all that follows is
abbrev read_behind_parameters : List ℕ → Parameters → ReadResult
read_behind_parameters s v =
    unless Refused (code_conditions v (from_code s))
    (unless Refused (input_conditions v (from_input s))
    (unless Refused (end_conditions (from_end s)) (Accepted v)))

pub form_one_alike : (s : List ℕ) → form_in s ≡ 1 → form_one_read_of s ≡ read_of s
unfolding form_one_read_of read_of version_conditions
form_one_alike s one =
    ap (unless Refused (form_one_version_conditions s)) (parameters_alike (from_parameters s) (read_behind_parameters s))
    ∙ simp one
