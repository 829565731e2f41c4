-- Laws that the checker has shown: trimming and padding undo each other.
use Rattle.std.specs.Prelude.{ℕ, zero, suc, ◌+◌, ◌-◌, ◌≤◌, ◌<◌, Bool, true, false, not, ◌&&◌, List, [], ◌∷◌, ◌++◌, ◌≡◌, refl, length, get_or, take, replicate, eqb}
use Rattle.std.proofs.Common.{append-nil, append_assoc, sym, ap, ◌∙◌, arith, length-append, length-take, take-suc, eqb-true, ne_eqb, eq-eqb}
use Rattle.std.proofs.lemmas.List.{length-replicate, get_or-replicate}
use Rattle.std.proofs.Math.Seq.{take-length}
use Rattle.std.proofs.lemmas.Bool.{eqb-false}
use Rattle.common.specs.Choice.{when◌then◌else◌}
use Rattle.pattern.specs.Image.{cons_trimmed, trim, padded, ends_in_zero}

-- ---- a trailing zero does not count, and a list whose last byte is not zero is left

pub trim_zero : (xs : List ℕ) → trim (xs ++ (0 ∷ [])) ≡ trim xs
unfolding trim when◌then◌else◌
trim_zero [] = refl
trim_zero (x ∷ xs) = ap (cons_trimmed x) (trim_zero xs)

cons_trimmed_snoc : (x : ℕ) (xs : List ℕ) (y : ℕ) → cons_trimmed x (xs ++ (y ∷ [])) ≡ x ∷ (xs ++ (y ∷ []))
cons_trimmed_snoc x [] y = refl
cons_trimmed_snoc x (z ∷ zs) y = refl

trim_last : (xs : List ℕ) (y : ℕ) → (y ≡ 0 → ⊥) → trim (xs ++ (y ∷ [])) ≡ xs ++ (y ∷ [])
unfolding trim when◌then◌else◌
trim_last [] y h = simp (ne_eqb y 0 h)
trim_last (x ∷ xs) y h = ap (cons_trimmed x) (trim_last xs y h) ∙ cons_trimmed_snoc x xs y

-- ---- the same for the front of a list, from its end backwards

take_last : (s : List ℕ) (n : ℕ) → 0 < n → n ≤ length s → take n s ≡ take (n - 1) s ++ (get_or s (n - 1) 0 ∷ [])
take_last s n h k = let e : n ≡ suc (n - 1) = omega arith in ap (λ (m : ℕ). take m s) e ∙ take-suc s (n - 1) 0 (omega arith)

pub trim_step : (s : List ℕ) (n : ℕ) → 0 < n → n ≤ length s → get_or s (n - 1) 0 ≡ 0 → trim (take (n - 1) s) ≡ trim (take n s)
trim_step s n h k z = sym (ap trim (take_last s n h k ∙ ap (λ (x : ℕ). take (n - 1) s ++ (x ∷ [])) z) ∙ trim_zero (take (n - 1) s))

pub trim_stop : (s : List ℕ) (n : ℕ) → 0 < n → n ≤ length s → (get_or s (n - 1) 0 ≡ 0 → ⊥) → trim (take n s) ≡ take n s
trim_stop s n h k z = ap trim (take_last s n h k) ∙ trim_last (take (n - 1) s) (get_or s (n - 1) 0) z ∙ sym (take_last s n h k)

-- zeros trim to nothing, and a list whose last byte other than zero is at i trims to the bytes up to there
pub trim_all : (s : List ℕ) → ((k : ℕ) → k < length s → get_or s k 0 ≡ 0) → trim s ≡ []
unfolding trim when◌then◌else◌
trim_all [] zeros = refl
trim_all (x ∷ xs) zeros =
    ap (cons_trimmed x) (trim_all xs (λ k less. zeros (suc k) (omega arith))) ∙ rw (eq-eqb x 0 (zeros 0 (omega arith)))

pub trim_to : (s : List ℕ) (i : ℕ) → i < length s → (get_or s i 0 ≡ 0 → ⊥) → ((k : ℕ) → i < k → k < length s → get_or s k 0 ≡ 0) → trim s ≡ take (i + 1) s
unfolding trim when◌then◌else◌
trim_to s i less some zeros = let e : suc i ≡ i + 1 = omega arith in go s i less some zeros ∙ ap (λ (n : ℕ). take n s) e
  where
    go : (s : List ℕ) (i : ℕ) → i < length s → (get_or s i 0 ≡ 0 → ⊥) → ((k : ℕ) → i < k → k < length s → get_or s k 0 ≡ 0) → trim s ≡ take (suc i) s
    go [] i less some zeros = absurd (omega arith)
    go (x ∷ xs) zero less some zeros =
        ap (cons_trimmed x) (trim_all xs (λ k h. zeros (suc k) (omega arith) (omega arith))) ∙ rw (ne_eqb x 0 some)
    go (x ∷ []) (suc i) less some zeros = absurd (omega arith)
    go (x ∷ y ∷ ys) (suc i) less some zeros =
        ap (cons_trimmed x) (go (y ∷ ys) i (omega arith) some (λ k more h. zeros (suc k) (omega arith) (omega arith)))

-- the trimmed list is a front
pub trim_front : (s : List ℕ) → take (length (trim s)) s ≡ trim s
unfolding trim when◌then◌else◌
trim_front [] = refl
trim_front (x ∷ xs) = go (trim xs) (trim_front xs)
  where
    go : (t : List ℕ) → take (length t) xs ≡ t → take (length (cons_trimmed x t)) (x ∷ xs) ≡ cons_trimmed x t
    go (y ∷ ys) e = ap (λ (l : List ℕ). x ∷ l) e
    go [] e = single (eqb x 0)
      where
        single : (b : Bool) → take (length (when b then [] else x ∷ [])) (x ∷ xs) ≡ (when b then [] else x ∷ [])
        single true = refl
        single false = refl

pub trim_short : (s : List ℕ) → length (trim s) ≤ length s
trim_short s = omega (arith, simp length-take at (ap length (trim_front s)))

-- ---- a body that does not end in zero

abbrev EndsNonzero : List ℕ → Type 0
EndsNonzero s = (length s ≡ 0 → ⊥) → get_or s (length s - 1) 0 ≡ 0 → ⊥

ends_fact : (s : List ℕ) → ends_in_zero s ≡ false → EndsNonzero s
unfolding ends_in_zero
ends_fact s h some last = let z : ◌≡◌ {A = Bool} true false = cc (ne_eqb (length s) 0 some, eq-eqb (get_or s (length s - 1) 0) 0 last, h) in let y : ◌≡◌ {A = ℕ} 0 1 = cc in omega arith

ends_test : (s : List ℕ) → EndsNonzero s → ends_in_zero s ≡ false
unfolding ends_in_zero
ends_test s h = go (eqb (length s) 0) refl
  where
    go : (b : Bool) → eqb (length s) 0 ≡ b → (not b && eqb (get_or s (length s - 1) 0) 0) ≡ false
    go true e = refl
    go false e = ne_eqb (get_or s (length s - 1) 0) 0 (h (eqb-false (length s) 0 e))

ends_cons : (x : ℕ) (t : List ℕ) → EndsNonzero t → EndsNonzero (cons_trimmed x t)
unfolding when◌then◌else◌
ends_cons x [] h = single (eqb x 0) refl
  where
    single : (b : Bool) → eqb x 0 ≡ b → EndsNonzero (when b then [] else x ∷ [])
    single true e some = absurd (some refl)
    single false e some = eqb-false x 0 e
ends_cons x (y ∷ ys) h =
    let e : length (x ∷ y ∷ ys) - 1 ≡ suc (length (y ∷ ys) - 1) = omega arith in
    let none : length (y ∷ ys) ≡ 0 → ⊥ = λ z. omega arith in
    λ some last. h none (sym (ap (λ (i : ℕ). get_or (x ∷ y ∷ ys) i 0) e) ∙ last)

trimmed_ends : (s : List ℕ) → EndsNonzero (trim s)
unfolding trim when◌then◌else◌
trimmed_ends [] = λ some. absurd (some refl)
trimmed_ends (x ∷ xs) = ends_cons x (trim xs) (trimmed_ends xs)

pub trim_ends : (s : List ℕ) → ends_in_zero (trim s) ≡ false
trim_ends s = ends_test (trim s) (trimmed_ends s)

pub replicate_ends : (n b : ℕ) → (b ≡ 0 → ⊥) → ends_in_zero (replicate n b) ≡ false
replicate_ends n b some =
    let e : length (replicate n b) ≡ n = length-replicate n b in
    ends_test (replicate n b) (λ full last. some (sym (get_or-replicate n (length (replicate n b) - 1) b 0 (omega arith)) ∙ last))

-- ---- the window of a code, and the code of a window

pub padded_length : (n : ℕ) (code : List ℕ) → length code ≤ n → length (padded n code) ≡ n
padded_length n code h = simp (length-append, length-replicate) (omega arith)

pad_cons : (x : ℕ) (xs t : List ℕ) → padded (length xs) t ≡ xs → padded (length (x ∷ xs)) (cons_trimmed x t) ≡ x ∷ xs
unfolding when◌then◌else◌
pad_cons x xs [] h = single (eqb x 0) refl
  where
    single : (b : Bool) → eqb x 0 ≡ b → padded (length (x ∷ xs)) (when b then [] else x ∷ []) ≡ x ∷ xs
    single true e =
        let i : length (x ∷ xs) - 0 ≡ suc (length xs - 0) = omega arith in
        ap (λ (n : ℕ). replicate n 0) i ∙ ap (λ (l : List ℕ). 0 ∷ l) h ∙ ap (λ (z : ℕ). z ∷ xs) (sym (eqb-true x 0 e))
    single false e =
        let i : length (x ∷ xs) - 1 ≡ length xs - 0 = omega arith in
        ap (λ (n : ℕ). x ∷ replicate n 0) i ∙ ap (λ (l : List ℕ). x ∷ l) h
pad_cons x xs (y ∷ ys) h =
    let i : length (x ∷ xs) - length (x ∷ y ∷ ys) ≡ length xs - length (y ∷ ys) = omega arith in
    ap (λ (n : ℕ). x ∷ y ∷ (ys ++ replicate n 0)) i ∙ ap (λ (l : List ℕ). x ∷ l) h

pub padded_trim : (s : List ℕ) → padded (length s) (trim s) ≡ s
unfolding trim when◌then◌else◌
padded_trim [] = refl
padded_trim (x ∷ xs) = pad_cons x xs (trim xs) (padded_trim xs)

trim_zeros : (k : ℕ) (s : List ℕ) → trim (s ++ replicate k 0) ≡ trim s
trim_zeros zero s = ap trim (append-nil s)
trim_zeros (suc k) s = ap trim (sym (append_assoc s (0 ∷ []) (replicate k 0))) ∙ trim_zeros k (s ++ (0 ∷ [])) ∙ trim_zero s

pub trim_kept : (s : List ℕ) → ends_in_zero s ≡ false → trim s ≡ s
unfolding trim when◌then◌else◌
trim_kept [] h = refl
trim_kept (x ∷ xs) h =
    let s : List ℕ = x ∷ xs in
    let some : length s ≡ 0 → ⊥ = λ z. omega arith in
    sym (ap trim (take-length s)) ∙ trim_stop s (length s) (omega arith) (omega arith) (ends_fact s h some) ∙ take-length s

pub trim_padded : (n : ℕ) (code : List ℕ) → ends_in_zero code ≡ false → trim (padded n code) ≡ code
trim_padded n code h = trim_zeros (n - length code) code ∙ trim_kept code h
