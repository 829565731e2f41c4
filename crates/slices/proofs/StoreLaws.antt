-- A part of a slice that is written whole, as the library says it, is a copy; so is a run of stores, one byte an iteration.
use Prim.Native.Nat.{ℕ, ◌+◌, ◌-◌, ◌≤◌, ◌<◌}
use mathlib.Core.List.{List, ◌++◌}
use mathlib.Core.Path.{◌≡◌, refl, sym, ap, ◌∙◌}
use native.Mathlib.Numerals.{add-one}
use native.Mathlib.Omega.{arith}
use lib.ListN.{length, take, drop, get_or, set, length-set}
use lib.Seq.{paste, paste-zero, paste-suc, take-length}
use borrow.Rule.Slice.PartMut.{put_mid}
use Rattle.std.proofs.Common.{append_assoc, drop-drop}
use Rattle.slices.specs.Slices.{copied}
use Rattle.slices.specs.SliceLaws.{copied_whole}

pub part_written : (d : List ℕ) (at n : ℕ) (s : List ℕ) → at + n ≤ length d → length s ≡ n → put_mid at (at + n - at) d s ≡ copied d at s
part_written d at n s room long =
    let far : at + (at + n - at) ≡ at + length s = omega (arith, long) in
    ap (λ (l : List ℕ). take at d ++ (s ++ l)) (drop-drop (at + n - at) at d ∙ ap (λ (k : ℕ). drop k d) far)
    ∙ sym (copied_whole d at s (omega (arith, long, room)) ∙ append_assoc (take at d) s (drop (at + length s) d))

-- l is d with the first i bytes of s stored from at on: what the loop of `copy` keeps
abbrev pub Stored : List ℕ → ℕ → List ℕ → ℕ → List ℕ → Type 0
Stored d at s i l = (i ≤ length s) × (l ≡ paste d at s i) × (length l ≡ length d)

module _ (d : List ℕ) (at : ℕ) (s : List ℕ) where
  pub stored_none : Stored d at s 0 d
  stored_none = (omega arith, paste-zero d at s, refl)

  module _ (i : ℕ) (l : List ℕ) (h : Stored d at s i l) (room : at + length s ≤ length d) where
    pub stored_more : i < length s → Stored d at s (i + 1) (set l (at + i) (get_or s i 0))
    stored_more inside =
        let place : at + i < length d = omega arith in (
          omega arith,
          rw add-one (ap (λ (x : List ℕ). set x (at + i) (get_or s i 0)) h.1 ∙ paste-suc d at s i 0 place inside),
          simp length-set h.2,
        )

    pub stored_all : length s ≤ i → l ≡ copied d at s
    stored_all past =
        let all : i ≡ length s = omega arith in
        h.1 ∙ rw (all, take-length) (sym (copied_whole d at s room))
