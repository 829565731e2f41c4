-- Laws that the checker has shown: the length of a file, and what an accepted writing is.
use Rattle.std.specs.Prelude.{ℕ, ◌+◌, ◌≤◌, true, List, ◌≡◌, length, eqb}
use Rattle.std.proofs.Common.{arith, length-append}
use borrow.Author.Tests.{eqb-true, ltb-false, not-false, eq-eqb, le-ltb}
use Rattle.pattern.specs.Parameters.{is_in_range, form_of}
use Rattle.pattern.specs.Writer.{Written, WriteRefused, records_of, smallest_length, file_of, write_conditions, write_of}
use Rattle.common.specs.RefusalLaws.{none_unless, unless_none}
use Rattle.pattern.specs.FrameLaws.{record_length_law}
use Rattle.pattern.specs.ParameterLaws.{parameters_length_law}
use Rattle.pattern.specs.declared.parameters.Parameters.{Parameters}

pub file_length : (v : Parameters) (code input : List ℕ) → length (records_of v code input) ≡ smallest_length (form_of v) + length code + length input
unfolding records_of
file_length v code input = simp (length-append, record_length_law, parameters_length_law) (omega arith)

-- a writing is accepted exactly if the parameters are in range, the image fills the window, the input fits, and so does the file
pub record WriteAccepted (v : Parameters) (image input : List ℕ) (room : ℕ) : Type 0 where
  pub range : is_in_range v ≡ true
  pub whole : length image ≡ v.layout.window
  pub few : length input ≤ v.layout.input
  pub fits : length (file_of v image input) ≤ room

module _ (v : Parameters) (image input : List ℕ) (room : ℕ) where
  pub written_accepted : WriteAccepted v image input room → write_of v image input room ≡ Written (length (file_of v image input))
  unfolding write_of write_conditions
  written_accepted w =
      none_unless WriteRefused (write_conditions v image input room) _
      (simp w.range, (simp (eq-eqb (length image) v.layout.window w.whole), (le-ltb v.layout.input (length input) w.few, (le-ltb room (length (file_of v image input)) w.fits, tt))))

  refused_length : {n : ℕ} (k : ℕ) → WriteRefused k ≡ Written n → ⊥
  refused_length k h = let z : ◌≡◌ {A = ℕ} 0 1 = cc in omega arith

  pub accepted_written : (n : ℕ) → write_of v image input room ≡ Written n → WriteAccepted v image input room × (length (file_of v image input) ≡ n)
  unfolding write_of write_conditions
  accepted_written n h =
      let p = unless_none WriteRefused (write_conditions v image input room) _ refused_length h in (
        record {
          range = not-false (is_in_range v) p.0.0;
          whole = eqb-true (length image) v.layout.window (not-false (eqb (length image) v.layout.window) p.0.1.0);
          few = ltb-false v.layout.input (length input) p.0.1.1.0;
          fits = ltb-false room (length (file_of v image input)) p.0.1.1.1.0;
        },
        length_same p.1,
      )
    where
      length_same : {i j : ℕ} → Written i ≡ Written j → i ≡ j
      length_same h = cc
