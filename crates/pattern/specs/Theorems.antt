-- Laws that the checker has shown: each pattern has exactly one file, of 31 to 36,897 bytes.
-- They are over the definitions that the contracts of `read`, `code_body`, `input_body` and `write` cite (Reader.antt, Writer.antt).
use Rattle.std.specs.Prelude.{ℕ, ◌+◌, ◌-◌, ◌≤◌, true, List, [], ◌++◌, ◌≡◌, refl, length, take, drop, replicate}
use Rattle.std.proofs.Common.{sym, ap, subst, ◌∙◌, arith, take_at}
use Rattle.std.proofs.lemmas.List.{length-replicate}
use Rattle.slices.specs.Slices.{AllBytes}
use Rattle.pattern.specs.Parameters.{is_in_range, form_of}
use Rattle.pattern.specs.Image.{trim, padded, ends_in_zero}
use Rattle.pattern.specs.Reader.{Accepted, form_in, parameters_of, read_of, code_body_of, input_body_of, image_of, IsFile}
use Rattle.pattern.specs.Writer.{WriteResult, Written, records_of, smallest_length, file_of, write_of, buffer_after, written_buffer}
use Rattle.pattern.specs.ParameterLaws.{form_plain, form_one_plain, plain_length, locked_length, parameters_least, parameters_most}
use Rattle.pattern.specs.ImageLaws.{trim_short, trim_ends, trim_kept, replicate_ends, padded_trim, padded_length, trim_padded}
use Rattle.pattern.specs.ReaderLaws.{accepted_file, read_form, read_in_range, read_ranges, code_fits, input_fits, code_ends}
use Rattle.pattern.specs.WriterLaws.{file_length, written_accepted, accepted_written}
use Rattle.pattern.specs.RoundTripLaws.{read_records, code_of_records, input_of_records, records_again}
use Rattle.pattern.specs.declared.parameters.Parameters.{Parameters}

-- a pattern that can be written: its parameters are in range, the image fills the window, the input fits
module _ (v : Parameters) (image input : List ℕ) (range : is_in_range v ≡ true) (whole : length image ≡ v.layout.window) (few : length input ≤ v.layout.input) where
  trimmed_fits : length (trim image) ≤ v.layout.window
  trimmed_fits = omega (arith, trim_short image)

  file_code : code_body_of (file_of v image input) ≡ trim image
  file_code = code_of_records v (trim image) input range trimmed_fits (trim_ends image) few

  file_parameters : read_of (file_of v image input) ≡ Accepted v
  file_parameters = read_records v (trim image) input range trimmed_fits (trim_ends image) few

  -- its file is accepted, and has its parameters, its window and its input
  pub file_is_file : IsFile (file_of v image input) v image input
  file_is_file =
      record {
        parameters = file_parameters;
        window =
            ap (λ (w : Parameters). padded w.layout.window (code_body_of (file_of v image input))) (accepted_file (file_of v image input) v file_parameters).same
            ∙ ap (padded v.layout.window) file_code
            ∙ ap (λ (n : ℕ). padded n (trim image)) (sym whole)
            ∙ padded_trim image;
        first_input = input_of_records v (trim image) input range trimmed_fits (trim_ends image) few;
      }

-- reading what was written gives the same parameters, code and input: the first n bytes of the buffer, where writing answered the length n
pub read_written : (v : Parameters) (image input buffer : List ℕ) (n : ℕ) → write_of v image input (length buffer) ≡ Written n
    → IsFile (take n (written_buffer v image input buffer)) v image input × (code_body_of (take n (written_buffer v image input buffer)) ≡ trim image)
read_written v image input buffer n h =
    let w = accepted_written v image input (length buffer) n h in
    let file : List ℕ = file_of v image input in
    let front : take n (written_buffer v image input buffer) ≡ file =
    ap (λ (x : WriteResult). take n (buffer_after x file buffer)) h ∙ take_at file (drop n buffer) n w.1
    in (
      subst (λ (s : List ℕ). IsFile s v image input) (sym front) (file_is_file v image input w.0.range w.0.whole w.0.few),
      ap code_body_of front ∙ file_code v image input w.0.range w.0.whole w.0.few,
    )

-- an accepted file, of bytes
module _ (s : List ℕ) (v : Parameters) (bytes : AllBytes s) (accepted : read_of s ≡ Accepted v) where
  window_of : (parameters_of s).layout.window ≡ v.layout.window
  window_of = ap (λ (w : Parameters). w.layout.window) (accepted_file s v accepted).same

  -- is the file of its pattern
  pub file_again : file_of v (image_of s) (input_body_of s) ≡ s
  file_again =
      ap (λ (code : List ℕ). records_of v code (input_body_of s)) (trim_padded (parameters_of s).layout.window (code_body_of s) (code_ends s v accepted))
      ∙ records_again s v bytes accepted

  -- written again into a buffer with room, it has the same bytes, and the rest of the buffer is left
  pub written_again : (buffer : List ℕ) → length s ≤ length buffer
      → (write_of v (image_of s) (input_body_of s) (length buffer) ≡ Written (length s))
      × (written_buffer v (image_of s) (input_body_of s) buffer ≡ s ++ drop (length s) buffer)
  written_again buffer room =
      let size : length (file_of v (image_of s) (input_body_of s)) ≡ length s = ap length file_again in
      let fits : length (code_body_of s) ≤ (parameters_of s).layout.window = omega (arith, code_fits s v accepted, window_of) in
      let e : write_of v (image_of s) (input_body_of s) (length buffer) ≡ Written (length s) =
      written_accepted v (image_of s) (input_body_of s) (length buffer) (record {
        range = read_in_range s v accepted;
        whole = padded_length (parameters_of s).layout.window (code_body_of s) fits ∙ window_of;
        few = input_fits s v accepted;
        fits = omega arith;
      })
      ∙ ap Written size
      in (
        e,
        ap (λ (x : WriteResult). buffer_after x (file_of v (image_of s) (input_body_of s)) buffer) e ∙ ap (λ (l : List ℕ). l ++ drop (length s) buffer) file_again,
      )

  -- its length is that of its two bodies and of the smallest file
  pub accepted_length : length s ≡ smallest_length (form_of v) + length (code_body_of s) + length (input_body_of s)
  accepted_length = sym (ap length (records_again s v bytes accepted)) ∙ file_length v (code_body_of s) (input_body_of s)

  pub smallest : 31 ≤ length s
  smallest = omega (arith, accepted_length, parameters_least (form_of v))

  pub largest : length s ≤ 36897
  largest = omega (arith, accepted_length, parameters_most (form_of v), read_ranges s v accepted, code_fits s v accepted, input_fits s v accepted)

-- the form of an accepted file is that of its pattern: 1 exactly if nothing is locked
pub form_of_file : (s : List ℕ) (v : Parameters) → read_of s ≡ Accepted v
    → (form_in s ≡ form_of v) × ((form_in s ≡ 1 → v.layout.locked ≡ 0) × (v.layout.locked ≡ 0 → form_in s ≡ 1))
form_of_file s v accepted =
    let form : form_in s ≡ form_of v = read_form s v accepted in
    (form, (λ one. form_one_plain v (sym form ∙ one), λ none. form ∙ form_plain v none))

-- two accepted files of one pattern are the same file
pub one_file : (s t : List ℕ) (v : Parameters) (image input : List ℕ) → AllBytes s → AllBytes t → IsFile s v image input → IsFile t v image input → s ≡ t
one_file s t v image input bs bt hs ht =
    let es : file_of v (image_of s) (input_body_of s) ≡ s = file_again s v bs hs.parameters in
    let et : file_of v (image_of t) (input_body_of t) ≡ t = file_again t v bt ht.parameters in
    let window : image_of s ≡ image_of t = hs.window ∙ sym ht.window in
    let first_input : input_body_of s ≡ input_body_of t = hs.first_input ∙ sym ht.first_input in
    sym es ∙ ap (λ (x : List ℕ). file_of v x (input_body_of s)) window ∙ ap (file_of v (image_of t)) first_input ∙ et

-- both bounds are reached: by a window of zeros without input, if nothing is locked; and by the largest window, with no zero in it, and the
-- largest input, if something is
pub smallest_reached : (v : Parameters) → is_in_range v ≡ true → v.layout.locked ≡ 0
    → IsFile (file_of v (replicate v.layout.window 0) []) v (replicate v.layout.window 0) [] × (length (file_of v (replicate v.layout.window 0) []) ≡ 31)
unfolding ends_in_zero
smallest_reached v range none =
    let n : ℕ = v.layout.window in
    let k : n ≡ n - 0 = omega arith in
    let empty : trim (replicate n 0) ≡ [] = ap (λ (i : ℕ). trim (replicate i 0)) k ∙ trim_padded n [] refl in (
      file_is_file v (replicate n 0) [] range (length-replicate n 0) (omega arith),
      file_length v (trim (replicate n 0)) [] ∙ (omega (arith, ap length empty, plain_length v none)),
    )

pub largest_reached : (v : Parameters) → is_in_range v ≡ true → v.layout.window ≡ 32768 → v.layout.input ≡ 4096 → (v.layout.locked ≡ 0 → ⊥)
    → IsFile (file_of v (replicate v.layout.window 1) (replicate v.layout.input 0)) v (replicate v.layout.window 1) (replicate v.layout.input 0)
    × (length (file_of v (replicate v.layout.window 1) (replicate v.layout.input 0)) ≡ 36897)
largest_reached v range window input some =
    let image : List ℕ = replicate v.layout.window 1 in
    let given : List ℕ = replicate v.layout.input 0 in
    let size : length image ≡ v.layout.window = length-replicate v.layout.window 1 in
    let count : length given ≡ v.layout.input = length-replicate v.layout.input 0 in
    let full : length (trim image) ≡ length image = ap length (trim_kept image (replicate_ends v.layout.window 1 (λ e. omega arith))) in
    (file_is_file v image given range size (omega arith), file_length v (trim image) given ∙ (omega (arith, locked_length v some)))
