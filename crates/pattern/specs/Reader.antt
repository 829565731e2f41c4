-- Definitions that must be believed: reading a pattern file (document 01, "Pattern file, form 1" and "Turned back, by place";
-- document 02, U6: form 2).
use Rattle.std.specs.Prelude.{ℕ, ◌+◌, not, ◌&&◌, List, [], ◌∷◌, ◌≡◌, Result, Ok, Err, length, get_or, ltb, eqb}
use Rattle.common.specs.Refusals.{Condition, ◌gives◌, unless, refusal_number}
use Rattle.common.specs.declared.refusals.Refusal.{Refusal}
use Rattle.pattern.specs.Parameters.{is_in_range, form_of, parameters_length, parameters_from_bytes}
use Rattle.pattern.specs.Frame.{frame_length, body_length, body_of, record_length, behind_record, has_frame, has_frame_of_length}
use Rattle.pattern.specs.Image.{padded, ends_in_zero}
use Rattle.pattern.specs.declared.parameters.Parameters.{Parameters}

-- what reading a file answers: its parameters, or the number of the refusal
pub data ReadResult : Type 0 where
  Accepted : Parameters → ReadResult
  Refused : ℕ → ReadResult

-- that answer, of the code's
abbrev pub read_result : Result Parameters Refusal → ReadResult
read_result (Ok p) = Accepted p
read_result (Err refusal) = Refused (refusal_number refusal)

-- the file from each record on: `PV` stands at its front
abbrev pub from_parameters : List ℕ → List ℕ
from_parameters s = behind_record s

abbrev pub from_code : List ℕ → List ℕ
from_code s = behind_record (from_parameters s)

abbrev pub from_input : List ℕ → List ℕ
from_input s = behind_record (from_code s)

abbrev pub from_end : List ℕ → List ℕ
from_end s = behind_record (from_input s)

-- the form and the board that `PV` at the front of s names
abbrev pub form_in : List ℕ → ℕ
form_in s = get_or (body_of s) 0 0

abbrev pub board_in : List ℕ → ℕ
board_in s = get_or (body_of s) 1 0

-- the parameters in the body of `PB` at the front of s
abbrev pub parameters_in : List ℕ → Parameters
parameters_in s = parameters_from_bytes (body_of s)

-- the length of the body of `PV`
abbrev pub version_length : ℕ
version_length = 2

-- what refuses each record, at the front of s, in order
-- `PV` (50h 56h): form 1 or 2, board 1
unfoldable pub version_conditions : List ℕ → List Condition
version_conditions s =
    not (has_frame_of_length 0x56 version_length s) gives 6
    ∷ (not (eqb (form_in s) 1) && not (eqb (form_in s) 2)) gives 7
    ∷ not (eqb (board_in s) 1) gives 8
    ∷ []

-- `PB` (50h 42h), in a file of that form: the parameters, and of no other form than that of their pattern. So form 2 with nothing locked is
-- refused; in form 1 nothing can be locked
unfoldable pub parameters_conditions : ℕ → List ℕ → List Condition
parameters_conditions form s =
    not (has_frame_of_length 0x42 (parameters_length form) s) gives 6
    ∷ not (is_in_range (parameters_in s)) gives 9
    ∷ not (eqb (form_of (parameters_in s)) form) gives 9
    ∷ []

-- `PC` (50h 43h): at most the window size; empty, or its last byte not zero
unfoldable pub code_conditions : Parameters → List ℕ → List Condition
code_conditions p s =
    not (has_frame 0x43 s) gives 6
    ∷ ltb p.layout.window (body_length s) gives 10
    ∷ ends_in_zero (body_of s) gives 10
    ∷ []

-- `PI` (50h 49h): at most the input capacity
unfoldable pub input_conditions : Parameters → List ℕ → List Condition
input_conditions p s =
    not (has_frame 0x49 s) gives 6
    ∷ ltb p.layout.input (body_length s) gives 11
    ∷ []

-- `PE` (50h 45h): no byte, and the file ends
unfoldable pub end_conditions : List ℕ → List Condition
end_conditions s =
    not (has_frame_of_length 0x45 0 s) gives 6
    ∷ ltb frame_length (length s) gives 6
    ∷ []

-- the parameters in a file
abbrev pub parameters_of : List ℕ → Parameters
parameters_of s = parameters_in (from_parameters s)

-- what reading a file answers: a record's frame is checked, then its body, then the next record
unfoldable pub read_of : List ℕ → ReadResult
read_of s =
    unless Refused (version_conditions s)
    (unless Refused (parameters_conditions (form_in s) (from_parameters s))
    (unless Refused (code_conditions (parameters_of s) (from_code s))
    (unless Refused (input_conditions (parameters_of s) (from_input s))
    (unless Refused (end_conditions (from_end s)) (Accepted (parameters_of s))))))

-- the number of a refusal, 0 where there is none
abbrev pub read_refusal : ReadResult → ℕ
read_refusal (Accepted p) = 0
read_refusal (Refused n) = n

-- what follows if the file is accepted, and what if it is refused
abbrev pub if_accepted : {A : Type 0} → ReadResult → A → A → A
if_accepted (Accepted p) stop go = go
if_accepted (Refused n) stop go = stop

-- the bodies of `PC` and of `PI`, empty if the file is refused
unfoldable pub code_body_of : List ℕ → List ℕ
code_body_of s = if_accepted (read_of s) [] (body_of (from_code s))

unfoldable pub input_body_of : List ℕ → List ℕ
input_body_of s = if_accepted (read_of s) [] (body_of (from_input s))

-- where these bodies start in the file: each record stands behind the ones before it
abbrev pub code_offset : List ℕ → ℕ
code_offset s = record_length s + record_length (from_parameters s) + frame_length

abbrev pub input_offset : List ℕ → ℕ
input_offset s = record_length s + record_length (from_parameters s) + record_length (from_code s) + frame_length

-- the window of an accepted file: the code from address 0, the rest zero
abbrev pub image_of : List ℕ → List ℕ
image_of s = padded (parameters_of s).layout.window (code_body_of s)

-- s is accepted, and it is a file of the pattern of those parameters, window and first input
pub record IsFile (s : List ℕ) (p : Parameters) (image input : List ℕ) : Type 0 where
  pub parameters : read_of s ≡ Accepted p
  pub window : image_of s ≡ image
  pub first_input : input_body_of s ≡ input
