-- The pieces that are copied one behind the other are the lines of the text.
use mathlib.Core.List.{List, [], ◌∷◌, ◌++◌, append_assoc, append-nil}
use mathlib.Core.Path.{◌≡◌, refl, sym, ap, ◌∙◌}
use Prim.Native.Nat.{ℕ, ◌+◌, ◌*◌, ◌≤◌, ◌<◌}
use native.Mathlib.Omega.{arith}
use native.Mathlib.Nat.{add-zero}
use lib.ListN.{length, get_or, take, drop, length-append, take-append-drop}
use lib.Seq.{length-take-le}
use Rattle.slices.specs.SliceLaws.{copied_front, copied_next, copied_whole}
use Rattle.slices.specs.Slices.{copied}
use Rattle.queries.specs.Queries.{ReportAnswer}
use Rattle.listing.specs.Ascii.{ascii}
use Rattle.listing.specs.Text.{hex_byte, hex_u16, decimal_digits, field, fields, refused_line, report_line, output_line, lines_of}
use Rattle.listing.specs.TextLaws.{field_length, fields_length, fields_append, fields_more, one_digit, decimal_digits_short}

-- ---- fields, in a loop

module _ (d : List ℕ) (at : ℕ) (bytes : List ℕ) (room : at + 3 * length bytes ≤ length d) where
  pub fields_put_none : d ≡ copied d at (fields (take 0 bytes))
  unfolding fields
  fields_put_none = sym (copied_whole d at [] (omega arith) ∙ rw (append-nil, add-zero, take-append-drop))

  pub fields_put_more : (i : ℕ) (t u : List ℕ) → i < length bytes → t ≡ copied d at (fields (take i bytes)) → u ≡ copied t (at + 3 * i) (field (get_or bytes i 0))
      → u ≡ copied d at (fields (take (i + 1) bytes))
  fields_put_more i t u h e f =
      let k : length (take i bytes) ≡ i = length-take-le i bytes (omega arith) in
      let l : length (fields (take i bytes)) ≡ 3 * i = fields_length (take i bytes) ∙ ap (λ (j : ℕ). 3 * j) k in
      let n : length (field (get_or bytes i 0)) ≡ 3 = field_length (get_or bytes i 0) in
      rw (fields_more bytes i h)
      (copied_next d t u at (at + 3 * i) (fields (take i bytes)) (field (get_or bytes i 0)) e f (omega arith) (omega arith))

-- ---- lines

-- a text at the front of a buffer, the rest left
text_at_front : (d t s : List ℕ) (n : ℕ) → t ≡ copied d 0 s → length s ≤ length d → n ≡ length s → (n ≡ length s) × (t ≡ s ++ drop n d)
text_at_front d t s n e fits k = (k, e ∙ copied_front d s fits ∙ ap (λ (i : ℕ). s ++ drop i d) (sym k))

pub refused_put : (n k : ℕ) (t₀ t₁ t₂ t₃ : List ℕ) → 11 ≤ length t₀ → t₁ ≡ copied t₀ 0 (ascii "refused ") → (k ≡ length (decimal_digits n)) × (t₂ ≡ copied t₁ 8 (decimal_digits n)) → t₃ ≡ copied t₂ (8 + k) (ascii "\n")
    → (8 + k + 1 ≡ length (refused_line n)) × (t₃ ≡ refused_line n ++ drop (8 + k + 1) t₀)
unfolding refused_line
refused_put n k t₀ t₁ t₂ t₃ room e₁ e₂ e₃ =
    let few : length (decimal_digits n) ≤ 2 = decimal_digits_short n in
    let long : length (ascii "refused " ++ decimal_digits n) ≡ 8 + length (decimal_digits n) = length-append (ascii "refused ") (decimal_digits n) in
    let whole : length (ascii "refused " ++ decimal_digits n ++ ascii "\n") ≡ 8 + length (decimal_digits n) + 1 = length-append (ascii "refused " ++ decimal_digits n) (ascii "\n") ∙ ap (λ (i : ℕ). i + 1) long in
    let one : t₂ ≡ copied t₀ 0 (ascii "refused " ++ decimal_digits n) = copied_next t₀ t₁ t₂ 0 8 (ascii "refused ") (decimal_digits n) e₁ e₂.1 refl (omega arith) in
    let two : t₃ ≡ copied t₀ 0 (ascii "refused " ++ decimal_digits n ++ ascii "\n") =
    copied_next t₀ t₂ t₃ 0 (8 + k) (ascii "refused " ++ decimal_digits n) (ascii "\n") one e₃ (omega (arith, e₂.0)) (omega arith)
    in
    text_at_front t₀ t₃ _ (8 + k + 1) two (omega arith) (omega (arith, e₂.0))

-- the values of a report in two stretches
pub fields_put : (psu psl : ℕ) (registers t₀ t₁ t₂ : List ℕ) → length registers ≡ 7 → 33 ≤ length t₀
    → t₁ ≡ copied t₀ 6 (fields (psu ∷ psl ∷ [])) → t₂ ≡ copied t₁ 12 (fields registers) → t₂ ≡ copied t₀ 6 (fields (psu ∷ psl ∷ registers))
fields_put psu psl registers t₀ t₁ t₂ seven room e₁ e₂ =
    let a : length (fields (psu ∷ psl ∷ [])) ≡ 6 = fields_length (psu ∷ psl ∷ []) in
    let b : length (fields registers) ≡ 3 * length registers = fields_length registers in
    rw (fields_append (psu ∷ psl ∷ []) registers)
    (copied_next t₀ t₁ t₂ 6 12 (fields (psu ∷ psl ∷ [])) (fields registers) e₁ e₂ (omega arith) (omega arith))

six_parts : (a b c d e f : List ℕ) → a ++ b ++ (c ++ d) ++ e ++ f ≡ a ++ b ++ c ++ (d ++ e ++ f)
six_parts a b c d e f = simp append_assoc

module _ (r : ReportAnswer) (o : List ℕ) (low : r.status < 10) (seven : length r.registers ≡ 7) where
  abbrev head_text : List ℕ
  head_text = decimal_digits r.status ++ ascii " " ++ hex_u16 r.counter

  abbrev fields_text : List ℕ
  fields_text = fields (r.psu ∷ r.psl ∷ r.registers)

  abbrev between_text : List ℕ
  between_text = ascii "\nout"

  head_length : length head_text ≡ 6
  unfolding hex_u16 hex_byte
  head_length = ap (λ (l : List ℕ). length (l ++ ascii " " ++ hex_u16 r.counter)) (one_digit r.status low)

  fields_text_length : length fields_text ≡ 27
  fields_text_length = let h = fields_length (r.psu ∷ r.psl ∷ r.registers) in omega (arith, h, seven)

  pieces_are_lines : head_text ++ fields_text ++ between_text ++ fields o ++ ascii "\n" ≡ lines_of r o
  unfolding lines_of report_line output_line
  pieces_are_lines = six_parts head_text fields_text (ascii "\n") (ascii "out") (fields o) (ascii "\n")

  pub lines_put : (t₀ t₁ t₂ t₃ t₄ t₅ : List ℕ) → 38 + 3 * length o ≤ length t₀ → t₁ ≡ copied t₀ 0 head_text → t₂ ≡ copied t₁ 6 fields_text → t₃ ≡ copied t₂ 33 between_text
      → t₄ ≡ copied t₃ 37 (fields o) → t₅ ≡ copied t₄ (37 + 3 * length o) (ascii "\n")
      → (37 + 3 * length o + 1 ≡ length (lines_of r o)) × (t₅ ≡ lines_of r o ++ drop (37 + 3 * length o + 1) t₀)
  lines_put t₀ t₁ t₂ t₃ t₄ t₅ room e₁ e₂ e₃ e₄ e₅ =
      let a : length head_text ≡ 6 = head_length in
      let b : length fields_text ≡ 27 = fields_text_length in
      let f : length (fields o) ≡ 3 * length o = fields_length o in
      let ab : length (head_text ++ fields_text) ≡ 33 = length-append head_text fields_text ∙ omega arith in
      let abc : length (head_text ++ fields_text ++ between_text) ≡ 37 = length-append (head_text ++ fields_text) between_text ∙ omega arith in
      let abcf : length (head_text ++ fields_text ++ between_text ++ fields o) ≡ 37 + 3 * length o = length-append (head_text ++ fields_text ++ between_text) (fields o) ∙ omega arith in
      let two : t₂ ≡ copied t₀ 0 (head_text ++ fields_text) = copied_next t₀ t₁ t₂ 0 6 head_text fields_text e₁ e₂ (omega arith) (omega arith) in
      let three : t₃ ≡ copied t₀ 0 (head_text ++ fields_text ++ between_text) = copied_next t₀ t₂ t₃ 0 33 (head_text ++ fields_text) between_text two e₃ (omega arith) (omega arith) in
      let four : t₄ ≡ copied t₀ 0 (head_text ++ fields_text ++ between_text ++ fields o) =
      copied_next t₀ t₃ t₄ 0 37 (head_text ++ fields_text ++ between_text) (fields o) three e₄ (omega arith) (omega arith)
      in
      let five : t₅ ≡ copied t₀ 0 (head_text ++ fields_text ++ between_text ++ fields o ++ ascii "\n") =
      copied_next t₀ t₄ t₅ 0 (37 + 3 * length o) (head_text ++ fields_text ++ between_text ++ fields o) (ascii "\n") four e₅ (omega arith) (omega arith)
      in
      let whole : length (head_text ++ fields_text ++ between_text ++ fields o ++ ascii "\n") ≡ 37 + 3 * length o + 1 =
      length-append (head_text ++ fields_text ++ between_text ++ fields o) (ascii "\n") ∙ omega arith
      in
      rw (← pieces_are_lines) (text_at_front t₀ t₅ _ (37 + 3 * length o + 1) five (omega arith) (omega arith))
