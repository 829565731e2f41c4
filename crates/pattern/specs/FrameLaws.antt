-- Laws that the checker has shown: a record read back is what was written, and a list with a frame at its front is that record and what follows.
use Prim.Native.Nat.{ℕ, ◌+◌, ◌≤◌}
use Rattle.std.specs.Prelude.{true, ◌≡◌, refl, get_or, drop, eqb}
use mathlib.Core.List.{List, [], ◌∷◌, ◌++◌}
use Rattle.std.proofs.Common.{sym, ◌∙◌, add_comm, arith, take-append-drop, drop_at, drop-drop, take-add, eqb-true, leb-true, eq-eqb, le-leb}
use Rattle.std.proofs.Math.Path.{ap}
use Rattle.std.proofs.Math.ListN.{length, take, length-append}
use Rattle.std.proofs.Math.Seq.{take-append_seam}
use Rattle.common.specs.TestLaws.{and_fact, all_fact, all_test}
use Rattle.slices.specs.SliceLaws.{part_length, bytes_drop, bytes_take}
use Rattle.slices.specs.Numbers.{u16_bytes}
use Rattle.slices.specs.NumberLaws.{u16_decoded, u16_encoded}
use Rattle.slices.specs.PieceLaws.{part_tabulated}
use Rattle.slices.specs.Slices.{AllBytes, part_of}
use Rattle.pattern.specs.Frame.{frame_length, record_of, body_length, body_of, record_length, behind_record, has_frame, has_frame_of_length}

-- ---- a record that was written, with any bytes behind it

pub record_length_law : (m : ℕ) (body : List ℕ) → length (record_of m body) ≡ length body + frame_length
unfolding record_of
record_length_law m body = omega arith

record_first : (m : ℕ) (body rest : List ℕ) → get_or (record_of m body ++ rest) 0 0 ≡ 0x50
unfolding record_of
record_first m body rest = refl

record_second : (m : ℕ) (body rest : List ℕ) → get_or (record_of m body ++ rest) 1 0 ≡ m
unfolding record_of
record_second m body rest = refl

record_front : (m : ℕ) (body rest : List ℕ) → take (length body) (drop frame_length (record_of m body ++ rest)) ≡ body
unfolding record_of
record_front m body rest = take-append_seam body rest

module _ (m : ℕ) (body rest : List ℕ) where
  pub record_body_length : body_length (record_of m body ++ rest) ≡ length body
  unfolding body_length record_of
  record_body_length = u16_decoded (length body) (body ++ rest)

  pub record_has_frame : has_frame m (record_of m body ++ rest) ≡ true
  unfolding has_frame
  record_has_frame =
      let s : List ℕ = record_of m body ++ rest in
      let k : length s ≡ length body + frame_length + length rest = length-append (record_of m body) rest ∙ ap (λ (i : ℕ). i + length rest) (record_length_law m body) in
      let room : record_length s ≤ length s = omega (arith, record_body_length) in
      all_test _ (eq-eqb _ 0x50 (record_first m body rest), (eq-eqb _ m (record_second m body rest), (le-leb (record_length s) (length s) room, tt)))

  pub record_has_frame_of_length : has_frame_of_length m (length body) (record_of m body ++ rest) ≡ true
  record_has_frame_of_length = simp (record_has_frame, record_body_length, eq-eqb (length body) (length body) refl)

  pub record_body : body_of (record_of m body ++ rest) ≡ body
  unfolding body_of
  record_body = ap (λ (n : ℕ). take n (drop frame_length (record_of m body ++ rest))) record_body_length ∙ record_front m body rest

  pub record_rest : behind_record (record_of m body ++ rest) ≡ rest
  unfolding behind_record
  record_rest = rw record_body_length (drop_at (record_of m body) rest (length body + frame_length) (record_length_law m body))

-- ---- a frame at the front of a list

pub record FrameHolds (m : ℕ) (s : List ℕ) : Type 0 where
  pub first : get_or s 0 0 ≡ 0x50
  pub second : get_or s 1 0 ≡ m
  pub room : record_length s ≤ length s

pub has_frame_fact : (m : ℕ) (s : List ℕ) → has_frame m s ≡ true → FrameHolds m s
unfolding has_frame
has_frame_fact m s h =
    let (first, (second, (room, _))) = all_fact _ h in
    record { first = eqb-true _ 0x50 first; second = eqb-true _ m second; room = leb-true _ (length s) room }

pub has_frame_of_length_fact : (m n : ℕ) (s : List ℕ) → has_frame_of_length m n s ≡ true → FrameHolds m s × (body_length s ≡ n)
has_frame_of_length_fact m n s h =
    let p = and_fact (has_frame m s) (eqb (body_length s) n) h in
    (has_frame_fact m s p.0, eqb-true (body_length s) n p.1)

module _ (m : ℕ) (s : List ℕ) (f : FrameHolds m s) where
  pub frame_body_length : length (body_of s) ≡ body_length s
  unfolding body_of
  frame_body_length =
      let room : record_length s ≤ length s = f.room in
      part_length s frame_length (body_length s) (omega arith)

pub bytes_behind_record : (s : List ℕ) → AllBytes s → AllBytes (behind_record s)
unfolding behind_record
bytes_behind_record s h = bytes_drop (record_length s) s h

pub bytes_of_body : (s : List ℕ) → AllBytes s → AllBytes (body_of s)
unfolding body_of
bytes_of_body s h = bytes_take (body_length s) (drop frame_length s) (bytes_drop frame_length s h)

-- the two parts of what follows the frame
body_rest : (s : List ℕ) → drop frame_length s ≡ body_of s ++ behind_record s
unfolding body_of behind_record
body_rest s =
    sym (take-append-drop (body_length s) (drop frame_length s))
    ∙ ap (λ (l : List ℕ). take (body_length s) (drop frame_length s) ++ l) (drop-drop (body_length s) frame_length s ∙ ap (λ (i : ℕ). drop i s) (add_comm frame_length (body_length s)))

-- the bytes of a frame: mark and length
frame_bytes : (m : ℕ) (s : List ℕ) → AllBytes s → FrameHolds m s → take frame_length s ≡ 0x50 ∷ m ∷ u16_bytes (length (body_of s))
unfolding body_length
frame_bytes m s bytes f =
    let room : record_length s ≤ length s = f.room in
    let marks : part_of s 0 2 ≡ 0x50 ∷ m ∷ [] = sym (part_tabulated 2 s 0 (omega arith)) ∙ (λ j. f.first j ∷ f.second j ∷ []) in
    let number : part_of s 2 2 ≡ u16_bytes (length (body_of s)) = sym (u16_encoded s bytes 2 (omega arith)) ∙ ap u16_bytes (sym (frame_body_length m s f)) in
    take-add 2 2 s ∙ (λ j. marks j ++ number j)

pub frame_split : (m : ℕ) (s : List ℕ) → AllBytes s → FrameHolds m s → s ≡ record_of m (body_of s) ++ behind_record s
unfolding record_of
frame_split m s bytes f =
    sym (take-append-drop frame_length s)
    ∙ (λ j. frame_bytes m s bytes f j ++ body_rest s j)
