-- Laws that the checker has shown: what parameters in range are; the form of their file; parameters as bytes are those parameters again, and back.
use Rattle.std.specs.Prelude.{ℕ, zero, suc, ◌+◌, ◌-◌, ◌*◌, ◌≤◌, ◌<◌, true, false, ◌&&◌, ◌≡◌, refl, eqb, take, replicate}
use Rattle.std.proofs.Math.Bool.{not}
use mathlib.Core.List.{List, [], ◌∷◌, ◌++◌}
use Rattle.std.proofs.Common.{sym, ◌∙◌, arith, ltb-true, eq-eqb, ne_eqb, length-take-le}
use Rattle.std.proofs.Math.Path.{ap}
use Rattle.std.proofs.Math.Decide.{ℕ_discrete}
use Rattle.std.proofs.Math.ListN.{length, get_or}
use Rattle.std.proofs.Math.Seq.{take_all, take-append_seam}
use Rattle.common.specs.Choice.{when◌then◌else◌}
use Rattle.common.specs.ChoiceLaws.{if_all}
use Rattle.common.specs.LayoutLaws.{LayoutSound, layout_fact}
use Rattle.common.specs.TestLaws.{OneTo, one_to_fact, all_fact}
use Rattle.slices.specs.Numbers.{u16_bytes, u16_at}
use Rattle.slices.specs.NumberLaws.{u16_decoded, u16_encoded}
use Rattle.slices.specs.PieceLaws.{parts_concat, part_tabulated}
use Rattle.slices.specs.Slices.{AllBytes, part_of, concat}
use Rattle.pattern.specs.Image.{padded}
use Rattle.pattern.specs.ImageLaws.{padded_length}
use Rattle.pattern.specs.Parameters.{is_in_range, form_of, parameters_bytes, parameters_bytes_length, parameters_length, parameters_body, parameters_from_bytes}
use Rattle.pattern.specs.declared.parameters.Parameters.{Parameters}

pub record InRange (v : Parameters) : Type 0 where
  pub layout : LayoutSound v.layout
  pub start : v.start.0 < v.layout.window
  pub quantum : OneTo v.quantum 255

pub range_fact : (v : Parameters) → is_in_range v ≡ true → InRange v
unfolding is_in_range
range_fact v h =
    let (layout, (start, (quantum, _))) = all_fact _ h in
    record { layout = layout_fact _ layout; start = ltb-true _ _ start; quantum = one_to_fact _ 255 quantum }

-- ---- the form, and the length of the body of `PB`

module _ (v : Parameters) where
  pub form_plain : v.layout.locked ≡ 0 → form_of v ≡ 1
  unfolding form_of when◌then◌else◌
  form_plain none = rw (eq-eqb v.layout.locked 0 none)

  pub form_locked : (v.layout.locked ≡ 0 → ⊥) → form_of v ≡ 2
  unfolding form_of when◌then◌else◌
  form_locked some = rw (ne_eqb v.layout.locked 0 some)

  pub form_one_plain : form_of v ≡ 1 → v.layout.locked ≡ 0
  form_one_plain one = go (ℕ_discrete v.layout.locked 0)
    where
      go : Dec (v.layout.locked ≡ 0) → v.layout.locked ≡ 0
      go (yes none) = none
      go (no some) = absurd (omega (arith, form_locked some))

  -- a reader knows it
  pub form_known : (not (eqb (form_of v) 1) && not (eqb (form_of v) 2)) ≡ false
  unfolding form_of
  form_known = if_all (λ (form : ℕ). (not (eqb form 1) && not (eqb form 2)) ≡ false) (λ none. refl) (λ some. refl)

  pub plain_length : v.layout.locked ≡ 0 → parameters_length (form_of v) ≡ 9
  unfolding parameters_length when◌then◌else◌
  plain_length none = rw (form_plain none)

  pub locked_length : (v.layout.locked ≡ 0 → ⊥) → parameters_length (form_of v) ≡ parameters_bytes_length
  unfolding parameters_length when◌then◌else◌
  locked_length some = rw (form_locked some)

pub parameters_least : (form : ℕ) → 9 ≤ parameters_length form
unfolding parameters_length
parameters_least form = if_all (λ (n : ℕ). 9 ≤ n) (λ plain. omega arith) (λ locked. omega arith)

pub parameters_most : (form : ℕ) → parameters_length form ≤ parameters_bytes_length
unfolding parameters_length
parameters_most form = if_all (λ (n : ℕ). n ≤ parameters_bytes_length) (λ plain. omega arith) (λ locked. omega arith)

-- ---- parameters as bytes

pub parameters_bytes_length_law : (v : Parameters) → length (parameters_bytes v) ≡ parameters_bytes_length
unfolding parameters_bytes
parameters_bytes_length_law v = refl

pub parameters_length_law : (v : Parameters) → length (parameters_body v) ≡ parameters_length (form_of v)
parameters_length_law v = length-take-le (parameters_length (form_of v)) (parameters_bytes v) (omega (arith, parameters_most (form_of v), parameters_bytes_length_law v))

-- the nine bytes of form 1 with a number behind them, or with none, which counts as 0
body_decoded : (v : Parameters) (rest : List ℕ) → u16_at rest 0 ≡ v.layout.locked → parameters_from_bytes (take 9 (parameters_bytes v) ++ rest) ≡ v
unfolding parameters_from_bytes parameters_bytes
body_decoded v rest locked =
    λ j.
    record {
      layout =
          record {
            window = u16_decoded v.layout.window [] j;
            input = u16_decoded v.layout.input [] j;
            output = u16_decoded v.layout.output [] j;
            locked = locked j;
          };
      start = record { 0 = u16_decoded v.start.0 [] j };
      quantum = v.quantum;
    }

-- the body of `PB` is read back
pub parameters_decoded : (v : Parameters) → parameters_from_bytes (parameters_body v) ≡ v
unfolding parameters_bytes
parameters_decoded v = go (ℕ_discrete v.layout.locked 0)
  where
    go : Dec (v.layout.locked ≡ 0) → parameters_from_bytes (parameters_body v) ≡ v
    go (yes none) = rw (plain_length v none) (body_decoded v [] (sym none))
    go (no some) = rw (locked_length v some) (body_decoded v (u16_bytes v.layout.locked) (u16_decoded v.layout.locked []))

-- zeros behind a list change no byte of it
padded_byte : (n : ℕ) (l : List ℕ) (i : ℕ) → get_or (l ++ replicate n 0) i 0 ≡ get_or l i 0
padded_byte zero [] i = refl
padded_byte (suc n) [] zero = refl
padded_byte (suc n) [] (suc i) = padded_byte n [] i
padded_byte n (x ∷ xs) zero = refl
padded_byte n (x ∷ xs) (suc i) = padded_byte n xs i

-- a body of at most eleven bytes, read and put again: its bytes come first, then a zero for each that it lacks
module _ (l : List ℕ) (short : length l ≤ parameters_bytes_length) (small : AllBytes l) where
  abbrev whole : List ℕ
  whole = padded parameters_bytes_length l

  same_byte : (i : ℕ) → get_or whole i 0 ≡ get_or l i 0
  same_byte i = padded_byte (parameters_bytes_length - length l) l i

  whole_small : AllBytes whole
  unfolding AllBytes
  whole_small i = rw (same_byte i) (small i)

  number_encoded : (at : ℕ) → at + 2 ≤ parameters_bytes_length → u16_bytes (u16_at l at) ≡ part_of whole at 2
  number_encoded at room =
      (λ j. u16_bytes (sym (same_byte at) j * 256 + sym (same_byte (at + 1)) j))
      ∙ u16_encoded whole whole_small at (omega (arith, padded_length parameters_bytes_length l short))

  bytes_encoded : parameters_bytes (parameters_from_bytes l) ≡ whole
  unfolding parameters_from_bytes parameters_bytes
  bytes_encoded =
      let size : length whole ≡ parameters_bytes_length = padded_length parameters_bytes_length l short in
      let quantum : get_or l 8 0 ∷ [] ≡ part_of whole 8 1 = ap (λ (b : ℕ). b ∷ []) (sym (same_byte 8)) ∙ part_tabulated 1 whole 8 (omega arith) in
      (λ j.
      concat (
      number_encoded 0 (omega arith) j
      ∷ number_encoded 2 (omega arith) j
      ∷ number_encoded 4 (omega arith) j
      ∷ number_encoded 6 (omega arith) j
      ∷ quantum j
      ∷ number_encoded 9 (omega arith) j
      ∷ []
      ))
      ∙ parts_concat whole 0 (2 ∷ 2 ∷ 2 ∷ 2 ∷ 1 ∷ 2 ∷ [])
      ∙ take_all parameters_bytes_length whole (omega arith)

  front_encoded : take (length l) (parameters_bytes (parameters_from_bytes l)) ≡ l
  front_encoded = ap (take (length l)) bytes_encoded ∙ take-append_seam l (replicate (parameters_bytes_length - length l) 0)

-- a body of the length that its form has is put again
pub parameters_encoded : (l : List ℕ) → length l ≡ parameters_length (form_of (parameters_from_bytes l)) → AllBytes l → parameters_body (parameters_from_bytes l) ≡ l
parameters_encoded l size small =
    ap (λ (n : ℕ). take n (parameters_bytes (parameters_from_bytes l))) (sym size)
    ∙ front_encoded l (omega (arith, parameters_most (form_of (parameters_from_bytes l)))) small
