-- Laws that the checker has shown: what a copy or a fill keeps, and what it puts in place. Callers cite these, and not the definitions' text.
use Rattle.std.specs.Prelude.{ℕ, zero, suc, ◌+◌, ◌-◌, ◌≤◌, ◌<◌, Bool, true, false, ◌≡◌, refl, List, [], ◌∷◌, ◌++◌, length, get_or, take, drop, leb}
use Rattle.std.proofs.Common.{sym, ap, ◌∙◌, append_assoc, append-nil, add_assoc, add-zero, zero-add, suc-add, arith, length-append, length-take, length-drop, take-append-drop, drop_of_length-le, take_at, drop_at, drop-drop, take-add, take-take, get_or-take, get_or-drop, length-take-le, leb-true, le-leb}
use Rattle.std.proofs.Math.Path.{subst⁻¹}
use Rattle.std.proofs.Math.Decide.{dec_lt}
use Rattle.std.proofs.Math.ListN.{get_or-eq_default}
use Rattle.std.proofs.Math.Seq.{take-nil, drop-nil, take-append_seam}
use Rattle.std.proofs.lemmas.List.{take-append-le}
use Rattle.std.proofs.lemmas.Bool.{lt-leb}
use Rattle.common.specs.Choice.{when◌then◌else◌}
use Rattle.slices.specs.Slices.{AllBytes, part_of, copied}

-- a part is the end of a front
pub part_front : (s : List ℕ) (at n : ℕ) → part_of s at n ≡ drop at (take (at + n) s)
part_front s zero n = rw zero-add
part_front [] (suc at) n = take-nil n ∙ sym (ap (drop (suc at)) (take-nil (suc at + n)) ∙ drop-nil (suc at))
part_front (x ∷ xs) (suc at) n = part_front xs at n ∙ sym (ap (λ (k : ℕ). drop (suc at) (take k (x ∷ xs))) (suc-add at n))

-- and it is whole where the list reaches that far
pub part_length : (s : List ℕ) (at n : ℕ) → at + n ≤ length s → length (part_of s at n) ≡ n
part_length s at n h = length-take-le n (drop at s) (simp length-drop (omega arith))

-- a front and a rest of bytes are bytes
pub bytes_take : (n : ℕ) (s : List ℕ) → AllBytes s → AllBytes (take n s)
unfolding AllBytes
bytes_take n s h i = go (dec_lt i n)
  where
    go : Dec (i < n) → get_or (take n s) i 0 < 256
    go (yes q) = subst⁻¹ (λ (x : ℕ). x < 256) (get_or-take n s i 0 q) (h i)
    go (no q) =
        let e : get_or (take n s) i 0 ≡ 0 = get_or-eq_default (take n s) 0 {n = i} (simp length-take (omega arith)) in
        omega arith

pub bytes_drop : (n : ℕ) (s : List ℕ) → AllBytes s → AllBytes (drop n s)
unfolding AllBytes
bytes_drop n s h i = subst⁻¹ (λ (x : ℕ). x < 256) (get_or-drop n s i 0) (h (n + i))

-- with room the source stands in the list, and without it the list is left
pub copied_whole : (d : List ℕ) (at : ℕ) (s : List ℕ) → at + length s ≤ length d → copied d at s ≡ take at d ++ s ++ drop (at + length s) d
unfolding copied when◌then◌else◌
copied_whole d at s h = simp (le-leb (at + length s) (length d) h)

pub copied_left : (d : List ℕ) (at : ℕ) (s : List ℕ) → length d < at + length s → copied d at s ≡ d
unfolding copied when◌then◌else◌
copied_left d at s h = simp (lt-leb (at + length s) (length d) h)

-- what holds in both of these cases holds of a copy
copied_either : (P : List ℕ → Type 0) (d : List ℕ) (at : ℕ) (s : List ℕ)
    → (at + length s ≤ length d → P (take at d ++ s ++ drop (at + length s) d)) → P d → P (copied d at s)
unfolding copied when◌then◌else◌
copied_either P d at s whole left = go (leb (at + length s) (length d)) refl
  where
    go : (b : Bool) → leb (at + length s) (length d) ≡ b → P (when b then take at d ++ s ++ drop (at + length s) d else d)
    go true e = whole (leb-true (at + length s) (length d) e)
    go false e = left

module _ (d : List ℕ) (at : ℕ) (s : List ℕ) where
  -- the length is kept
  pub copied_length : length (copied d at s) ≡ length d
  copied_length =
      copied_either (λ (l : List ℕ). length l ≡ length d) d at s
      (λ h. simp (length-append, length-take, length-drop) (omega arith))
      refl

  -- what stands before the place is kept
  pub copied_before : (n : ℕ) → n ≤ at → take n (copied d at s) ≡ take n d
  copied_before n h =
      copied_either (λ (l : List ℕ). take n l ≡ take n d) d at s
      (λ fits.
      let e : length (take at d) ≡ at = length-take-le at d (omega arith) in
      let k : n ≤ length (take at d) = omega arith in
      ap (take n) (append_assoc (take at d) s (drop (at + length s) d))
      ∙ take-append-le n (take at d) (s ++ drop (at + length s) d) k
      ∙ take-take n at d h)
      refl

  -- what stands behind the source is kept
  pub copied_after : (n : ℕ) → at + length s ≤ n → drop n (copied d at s) ≡ drop n d
  copied_after n h =
      copied_either (λ (l : List ℕ). drop n l ≡ drop n d) d at s
      (λ fits.
      let p : List ℕ = take at d ++ s in
      let q : List ℕ = drop (at + length s) d in
      let e : length p ≡ at + length s = simp (length-append, length-take) (omega arith) in
      let k : n ≡ at + length s + (n - (at + length s)) = omega arith in
      ap (λ (i : ℕ). drop i (p ++ q)) k
      ∙ sym (drop-drop (n - (at + length s)) (at + length s) (p ++ q))
      ∙ ap (drop (n - (at + length s))) (drop_at p q (at + length s) e)
      ∙ drop-drop (n - (at + length s)) (at + length s) d
      ∙ sym (ap (λ (i : ℕ). drop i d) k))
      refl

  -- from the place on stands the source
  copied_from : at + length s ≤ length d → drop at (copied d at s) ≡ s ++ drop (at + length s) d
  copied_from h =
      let e : length (take at d) ≡ at = length-take-le at d (omega arith) in
      ap (drop at) (copied_whole d at s h ∙ append_assoc (take at d) s (drop (at + length s) d))
      ∙ drop_at (take at d) (s ++ drop (at + length s) d) at e

  -- the stretch is the source
  pub copied_inside : at + length s ≤ length d → part_of (copied d at s) at (length s) ≡ s
  copied_inside h = ap (take (length s)) (copied_from h) ∙ take-append_seam s (drop (at + length s) d)

  -- a part that ends before the place, or begins behind the source, is kept
  pub part_before_copy : (from n : ℕ) → from + n ≤ at → part_of (copied d at s) from n ≡ part_of d from n
  part_before_copy from n h = part_front (copied d at s) from n ∙ ap (drop from) (copied_before (from + n) h) ∙ sym (part_front d from n)

  pub part_after_copy : (from n : ℕ) → at + length s ≤ from → part_of (copied d at s) from n ≡ part_of d from n
  part_after_copy from n h = ap (take n) (copied_after from h)

  -- the same two, byte by byte
  pub byte_before_copy : (i : ℕ) → i < at → get_or (copied d at s) i 0 ≡ get_or d i 0
  byte_before_copy i h =
      sym (get_or-take at (copied d at s) i 0 h)
      ∙ ap (λ (l : List ℕ). get_or l i 0) (copied_before at (omega arith))
      ∙ get_or-take at d i 0 h

  pub byte_after_copy : (i : ℕ) → at + length s ≤ i → get_or (copied d at s) i 0 ≡ get_or d i 0
  byte_after_copy i h =
      rw add-zero at (sym (get_or-drop i (copied d at s) 0 0) ∙ ap (λ (l : List ℕ). get_or l 0 0) (copied_after i h) ∙ get_or-drop i d 0 0)

-- two copies, the second where the first ends, are one
pub copied_next : (d e f : List ℕ) (at n : ℕ) (s t : List ℕ) → e ≡ copied d at s → f ≡ copied e n t → n ≡ at + length s
    → at + length s + length t ≤ length d → f ≡ copied d at (s ++ t)
copied_next d e f at n s t first second place h =
    let fits : at + length s ≤ length d = omega arith in
    let kept : length e ≡ length d = ap length first ∙ copied_length d at s in
    let k : length (take at d ++ s) ≡ at + length s = simp (length-append, length-take) (omega arith) in
    let both : at + length (s ++ t) ≤ length d = simp length-append (omega arith) in
    second
    ∙ ap (λ (i : ℕ). copied e i t) place
    ∙ copied_whole e (at + length s) t (omega arith)
    ∙ ap (λ (l : List ℕ). l ++ t ++ drop (at + length s + length t) e)
    (ap (take (at + length s)) (first ∙ copied_whole d at s fits) ∙ take_at (take at d ++ s) (drop (at + length s) d) (at + length s) k)
    ∙ ap (λ (l : List ℕ). take at d ++ s ++ t ++ l)
    (ap (drop (at + length s + length t)) first ∙ copied_after d at s (at + length s + length t) (omega arith))
    ∙ sym (copied_whole d at (s ++ t) both ∙ simp (append_assoc, length-append, add_assoc))

-- a source at the very front
pub copied_front : (d s : List ℕ) → length s ≤ length d → copied d 0 s ≡ s ++ drop (length s) d
copied_front d s h = copied_whole d 0 s (omega arith) ∙ rw zero-add

-- a source of the whole length
pub copied_all : (d s : List ℕ) → length s ≡ length d → copied d 0 s ≡ s
copied_all d s h =
    copied_front d s (omega arith) ∙ ap (λ (l : List ℕ). s ++ l) (drop_of_length-le d {i = length s} (omega arith)) ∙ append-nil s

-- nothing copied changes nothing
pub copied_none : (d : List ℕ) (at : ℕ) → copied d at [] ≡ d
copied_none d at =
    copied_either (λ (l : List ℕ). l ≡ d) d at []
    (λ h. rw (append-nil (take at d), add-zero) (take-append-drop at d))
    refl

-- and so does a part copied to where it stands
pub copy_self : (d : List ℕ) (at n : ℕ) → at + n ≤ length d → copied d at (part_of d at n) ≡ d
copy_self d at n h =
    let e : length (part_of d at n) ≡ n = part_length d at n h in
    copied_whole d at (part_of d at n) (omega arith)
    ∙ ap (λ (k : ℕ). take at d ++ part_of d at n ++ drop (at + k) d) e
    ∙ ap (λ (x : List ℕ). x ++ drop (at + n) d) (sym (take-add at n d))
    ∙ take-append-drop (at + n) d
