-- Laws that the checker has shown, by computation: K10's file and the edges of document 01; the same file with a lock, and the edges of
-- form 2 (document 02, U6).
use Rattle.std.specs.Prelude.{ℕ, ◌+◌, true, List, [], ◌∷◌, ◌++◌, ◌≡◌, refl, length}
use Rattle.pattern.specs.Parameters.{is_in_range}
use Rattle.pattern.specs.Image.{padded}
use Rattle.pattern.specs.Reader.{Accepted, Refused, read_of, code_body_of, input_body_of}
use Rattle.pattern.specs.Writer.{Written, WriteRefused, file_of, write_of}
use Rattle.pattern.specs.declared.parameters.Parameters.{Parameters}
use Rattle.pattern.specs.FileDefinitions.{file_definitions}

abbrev pub k10_code : List ℕ
k10_code = 0x70 ∷ 0x84 ∷ 0x01 ∷ 0xF0 ∷ 0x40 ∷ []

abbrev pub k10 : List ℕ
k10 =
    0x50 ∷ 0x56 ∷ 0x00 ∷ 0x02 ∷ 0x01 ∷ 0x01
    ∷ 0x50 ∷ 0x42 ∷ 0x00 ∷ 0x09 ∷ 0x00 ∷ 0x10 ∷ 0x00 ∷ 0x04 ∷ 0x00 ∷ 0x04 ∷ 0x00 ∷ 0x00 ∷ 0x02
    ∷ 0x50 ∷ 0x43 ∷ 0x00 ∷ 0x05 ∷ 0x70 ∷ 0x84 ∷ 0x01 ∷ 0xF0 ∷ 0x40
    ∷ 0x50 ∷ 0x49 ∷ 0x00 ∷ 0x01 ∷ 0x41
    ∷ 0x50 ∷ 0x45 ∷ 0x00 ∷ 0x00
    ∷ []

-- the same in a file of that form, with more bytes behind the nine of `PB`
abbrev pub k10_with : ℕ → List ℕ → List ℕ
k10_with form more =
    0x50 ∷ 0x56 ∷ 0x00 ∷ 0x02 ∷ form ∷ 0x01
    ∷ 0x50 ∷ 0x42 ∷ 0x00 ∷ (9 + length more) ∷ 0x00 ∷ 0x10 ∷ 0x00 ∷ 0x04 ∷ 0x00 ∷ 0x04 ∷ 0x00 ∷ 0x00 ∷ 0x02
    ∷ (more
    ++ 0x50 ∷ 0x43 ∷ 0x00 ∷ 0x05 ∷ 0x70 ∷ 0x84 ∷ 0x01 ∷ 0xF0 ∷ 0x40
    ∷ 0x50 ∷ 0x49 ∷ 0x00 ∷ 0x01 ∷ 0x41
    ∷ 0x50 ∷ 0x45 ∷ 0x00 ∷ 0x00
    ∷ [])

abbrev pub parameters_with : ℕ → ℕ → ℕ → Parameters
parameters_with window start locked = record { layout = record { window = window; input = 4; output = 4; locked = locked }; start = record { 0 = start }; quantum = 2 }

-- the smallest file of a window size and a start address, each of two bytes
abbrev pub small_file : ℕ → ℕ → ℕ → ℕ → List ℕ
small_file h l high low =
    0x50 ∷ 0x56 ∷ 0x00 ∷ 0x02 ∷ 0x01 ∷ 0x01
    ∷ 0x50 ∷ 0x42 ∷ 0x00 ∷ 0x09 ∷ h ∷ l ∷ 0x00 ∷ 0x04 ∷ 0x00 ∷ 0x04 ∷ high ∷ low ∷ 0x02
    ∷ 0x50 ∷ 0x43 ∷ 0x00 ∷ 0x00
    ∷ 0x50 ∷ 0x49 ∷ 0x00 ∷ 0x00
    ∷ 0x50 ∷ 0x45 ∷ 0x00 ∷ 0x00
    ∷ []

pub record WorkedFiles : Type 0 where
  pub k10_values : read_of k10 ≡ Accepted (parameters_with 16 0 0)
  pub k10_code_law : code_body_of k10 ≡ k10_code
  pub k10_input : input_body_of k10 ≡ 0x41 ∷ []
  pub k10_file : file_of (parameters_with 16 0 0) (padded 16 k10_code) (0x41 ∷ []) ≡ k10
  pub k10_written : write_of (parameters_with 16 0 0) (padded 16 k10_code) (0x41 ∷ []) 37 ≡ Written 37
  pub k10_no_room : write_of (parameters_with 16 0 0) (padded 16 k10_code) (0x41 ∷ []) 36 ≡ WriteRefused 16
  pub k10_cut : read_of (0x50 ∷ 0x56 ∷ 0x00 ∷ 0x02 ∷ 0x01 ∷ []) ≡ Refused 6
  pub k10_more : read_of (k10 ++ (0x00 ∷ [])) ≡ Refused 6
  pub k10_body_left : code_body_of (k10 ++ (0x00 ∷ [])) ≡ []
  pub smallest : length (small_file 0x00 0x10 0x00 0x00) ≡ 31
  pub most_in_range : is_in_range (record { layout = record { window = 32768; input = 4096; output = 4096; locked = 32768 }; start = record { 0 = 32767 }; quantum = 255 }) ≡ true
  pub window_most : read_of (small_file 0x80 0x00 0x00 0x00) ≡ Accepted (parameters_with 32768 0 0)
  pub window_above : read_of (small_file 0x80 0x01 0x00 0x00) ≡ Refused 9
  pub window_above_written : write_of (parameters_with 32769 0 0) [] [] 100 ≡ WriteRefused 9
  pub start_last : read_of (small_file 0x00 0x10 0x00 0x0F) ≡ Accepted (parameters_with 16 15 0)
  pub start_outside : read_of (small_file 0x00 0x10 0x00 0x10) ≡ Refused 9
  pub plain_file : k10_with 1 [] ≡ k10
  pub locked_values : read_of (k10_with 2 (0x00 ∷ 0x03 ∷ [])) ≡ Accepted (parameters_with 16 0 3)
  pub locked_code : code_body_of (k10_with 2 (0x00 ∷ 0x03 ∷ [])) ≡ k10_code
  pub locked_input : input_body_of (k10_with 2 (0x00 ∷ 0x03 ∷ [])) ≡ 0x41 ∷ []
  pub locked_file : file_of (parameters_with 16 0 3) (padded 16 k10_code) (0x41 ∷ []) ≡ k10_with 2 (0x00 ∷ 0x03 ∷ [])
  pub locked_written : write_of (parameters_with 16 0 3) (padded 16 k10_code) (0x41 ∷ []) 39 ≡ Written 39
  pub locked_no_room : write_of (parameters_with 16 0 3) (padded 16 k10_code) (0x41 ∷ []) 38 ≡ WriteRefused 16
  pub locked_none : read_of (k10_with 2 (0x00 ∷ 0x00 ∷ [])) ≡ Refused 9
  pub locked_whole : read_of (k10_with 2 (0x00 ∷ 0x10 ∷ [])) ≡ Accepted (parameters_with 16 0 16)
  pub locked_above : read_of (k10_with 2 (0x00 ∷ 0x11 ∷ [])) ≡ Refused 9
  pub locked_above_written : write_of (parameters_with 16 0 17) (padded 16 k10_code) (0x41 ∷ []) 39 ≡ WriteRefused 9
  pub locked_nine_bytes : read_of (k10_with 2 []) ≡ Refused 6
  pub plain_eleven_bytes : read_of (k10_with 1 (0x00 ∷ 0x03 ∷ [])) ≡ Refused 6
  pub form_above : read_of (k10_with 3 (0x00 ∷ 0x03 ∷ [])) ≡ Refused 7
  pub form_below : read_of (k10_with 0 []) ≡ Refused 7

pub worked_files : WorkedFiles
unfolding file_definitions
worked_files =
    record {
      k10_values = refl;
      k10_code_law = refl;
      k10_input = refl;
      k10_file = refl;
      k10_written = refl;
      k10_no_room = refl;
      k10_cut = refl;
      k10_more = refl;
      k10_body_left = refl;
      smallest = refl;
      most_in_range = refl;
      window_most = refl;
      window_above = refl;
      window_above_written = refl;
      start_last = refl;
      start_outside = refl;
      plain_file = refl;
      locked_values = refl;
      locked_code = refl;
      locked_input = refl;
      locked_file = refl;
      locked_written = refl;
      locked_no_room = refl;
      locked_none = refl;
      locked_whole = refl;
      locked_above = refl;
      locked_above_written = refl;
      locked_nine_bytes = refl;
      plain_eleven_bytes = refl;
      form_above = refl;
      form_below = refl;
    }
