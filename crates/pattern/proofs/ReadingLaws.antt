-- Reading goes from record to record: a refusal ends it, and an accepted record leaves it to the next.
use Rattle.std.specs.Prelude.{ℕ, Bool, true, false, List, [], ◌∷◌, ◌≡◌, Result, Ok, Err}
use Rattle.std.proofs.Common.{sym, ap, ◌∙◌}
use Rattle.common.specs.Choice.{when◌then◌else◌}
use Rattle.common.specs.Refusals.{Condition, unless, refusal_by, refusal_number, refusal_in}
use Rattle.common.specs.RefusalLaws.{NoneGivesZero, none_unless, none_holds, number_some}
use Rattle.common.specs.declared.refusals.Refusal.{Refusal}
use Rattle.pattern.specs.Frame.{behind_record}
use Rattle.pattern.specs.Parameters.{form_number}
use Rattle.pattern.specs.Reader.{ReadResult, Accepted, Refused, form_in, parameters_in, version_conditions, parameters_conditions, code_conditions, input_conditions, end_conditions, read_of}
use Rattle.pattern.specs.ReaderLaws.{version_numbered, parameters_numbered, code_numbered, input_numbered, end_numbered}
use Rattle.pattern.specs.declared.parameters.Form.{Form}
use Rattle.pattern.specs.declared.parameters.Parameters.{Parameters}

-- the refusal by a list that refuses by a number
unless_by : (ks : List Condition) (next : ReadResult) (n : ℕ) → (n ≡ 0 → ⊥) → n ≡ refusal_by ks → Refused n ≡ unless Refused ks next
unfolding refusal_by unless when◌then◌else◌
unless_by [] next n some e = absurd (some e)
unless_by (k ∷ ks) next n some e = go k.holds e (unless_by ks next n some)
  where
    go : (b : Bool) → n ≡ (when b then k.number else refusal_by ks) → (n ≡ refusal_by ks → Refused n ≡ unless Refused ks next)
        → Refused n ≡ (when b then Refused k.number else unless Refused ks next)
    go true q further = ap Refused q
    go false q further = further q

module _ (ks : List Condition) {A : Type 0} {r : Result A Refusal} (answered : refusal_in r ≡ refusal_by ks) (next : ReadResult) where
  -- a refused record
  pub reading_stops : {refusal : Refusal} → r ≡ Err refusal → Refused (refusal_number refusal) ≡ unless Refused ks next
  reading_stops {refusal} told = unless_by ks next (refusal_number refusal) (number_some refusal) (sym (ap refusal_in told) ∙ answered)

  -- an accepted one
  pub reading_goes_on : {a : A} → r ≡ Ok a → NoneGivesZero ks → unless Refused ks next ≡ next
  reading_goes_on told numbered = none_unless Refused ks next (none_holds ks numbered (sym answered ∙ ap refusal_in told))

-- the reading from a record on, with the parameters that were read before
abbrev pub read_from_end : Parameters → List ℕ → ReadResult
read_from_end v e = unless Refused (end_conditions e) (Accepted v)

abbrev pub read_from_input : Parameters → List ℕ → ReadResult
read_from_input v i = unless Refused (input_conditions v i) (read_from_end v (behind_record i))

abbrev pub read_from_code : Parameters → List ℕ → ReadResult
read_from_code v c = unless Refused (code_conditions v c) (read_from_input v (behind_record c))

abbrev pub read_from_parameters : ℕ → List ℕ → ReadResult
read_from_parameters form p = unless Refused (parameters_conditions form p) (read_from_code (parameters_in p) (behind_record p))

-- each step: the next record's part of the file, what the record answered, and that it was accepted
pub after_version : (s p : List ℕ) (form : Form) {r : Result Form Refusal} → p ≡ behind_record s → form_number form ≡ form_in s → refusal_in r ≡ refusal_by (version_conditions s)
    → r ≡ Ok form → read_of s ≡ read_from_parameters (form_number form) p
unfolding read_of
after_version s p form place named answered told = reading_goes_on (version_conditions s) answered _ told (version_numbered s) ∙ rw (← named, ← place)

pub after_parameters : (form : ℕ) (p c : List ℕ) {v : Parameters} {r : Result Parameters Refusal} → c ≡ behind_record p → v ≡ parameters_in p
    → refusal_in r ≡ refusal_by (parameters_conditions form p) → r ≡ Ok v → read_from_parameters form p ≡ read_from_code v c
after_parameters form p c place read answered told =
    reading_goes_on (parameters_conditions form p) answered _ told (parameters_numbered p form)
    ∙ (λ j. read_from_code (sym read j) (sym place j))

module _ (v : Parameters) {r : Result Unit Refusal} (told : r ≡ Ok tt) where
  pub after_code : (c i : List ℕ) → i ≡ behind_record c → refusal_in r ≡ refusal_by (code_conditions v c) → read_from_code v c ≡ read_from_input v i
  after_code c i place answered = reading_goes_on (code_conditions v c) answered _ told (code_numbered c v) ∙ ap (read_from_input v) (sym place)

  pub after_input : (i e : List ℕ) → e ≡ behind_record i → refusal_in r ≡ refusal_by (input_conditions v i) → read_from_input v i ≡ read_from_end v e
  after_input i e place answered = reading_goes_on (input_conditions v i) answered _ told (input_numbered i v) ∙ ap (read_from_end v) (sym place)

  pub after_end : (e : List ℕ) → refusal_in r ≡ refusal_by (end_conditions e) → read_from_end v e ≡ Accepted v
  after_end e answered = reading_goes_on (end_conditions e) answered _ told (end_numbered e)
