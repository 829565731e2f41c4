-- Definitions that must be believed: writing a pattern file (document 01, "Pattern file, form 1" and "Turned back, by place";
-- document 02, U6: form 2).
use Rattle.std.specs.Prelude.{ℕ, ◌+◌, ◌*◌, not, List, [], ◌∷◌, ◌++◌, Result, Ok, Err, length, drop, ltb, eqb}
use Rattle.slices.specs.Slices.{concat}
use Rattle.common.specs.Refusals.{Condition, ◌gives◌, unless, refusal_number}
use Rattle.common.specs.declared.refusals.Refusal.{Refusal}
use Rattle.pattern.specs.Parameters.{is_in_range, form_of, parameters_length, parameters_body}
use Rattle.pattern.specs.Frame.{frame_length, record_of}
use Rattle.pattern.specs.Image.{trim}
use Rattle.pattern.specs.Reader.{version_length}
use Rattle.pattern.specs.declared.parameters.Parameters.{Parameters}

-- what writing a file answers: its length, or the number of the refusal
pub data WriteResult : Type 0 where
  Written : ℕ → WriteResult
  WriteRefused : ℕ → WriteResult

-- that answer, of the code's
abbrev pub write_result : Result ℕ Refusal → WriteResult
write_result (Ok n) = Written n
write_result (Err refusal) = WriteRefused (refusal_number refusal)

-- the body of `PV`: form and board
abbrev pub version_body : Parameters → List ℕ
version_body p = form_of p ∷ 1 ∷ []

-- the five records, with these bodies of `PC` and `PI`
unfoldable pub records_of : Parameters → List ℕ → List ℕ → List ℕ
records_of p code input =
    concat (
    record_of 0x56 (version_body p)
    ∷ record_of 0x42 (parameters_body p)
    ∷ record_of 0x43 code
    ∷ record_of 0x49 input
    ∷ record_of 0x45 []
    ∷ []
    )

-- how much of a file of that form is not in these two bodies: the length of the smallest file
abbrev pub smallest_length : ℕ → ℕ
smallest_length form = 5 * frame_length + version_length + parameters_length form

-- the file of the pattern of those parameters, window and first input
abbrev pub file_of : Parameters → List ℕ → List ℕ → List ℕ
file_of p image input = records_of p (trim image) input

-- what refuses the writing into a buffer of that length, in order
unfoldable pub write_conditions : Parameters → List ℕ → List ℕ → ℕ → List Condition
write_conditions p image input room =
    not (is_in_range p) gives 9
    ∷ not (eqb (length image) p.layout.window) gives 9
    ∷ ltb p.layout.input (length input) gives 11
    ∷ ltb room (length (file_of p image input)) gives 16
    ∷ []

-- what writing answers: the file's length, or the refusal
unfoldable pub write_of : Parameters → List ℕ → List ℕ → ℕ → WriteResult
write_of p image input room = unless WriteRefused (write_conditions p image input room) (Written (length (file_of p image input)))

-- the buffer after that answer: the file at its front and the rest left, or all of it left
abbrev pub buffer_after : WriteResult → List ℕ → List ℕ → List ℕ
buffer_after (Written n) file d = file ++ drop n d
buffer_after (WriteRefused n) file d = d

-- what the buffer d holds after the writing
abbrev pub written_buffer : Parameters → List ℕ → List ℕ → List ℕ → List ℕ
written_buffer p image input d = buffer_after (write_of p image input (length d)) (file_of p image input) d
