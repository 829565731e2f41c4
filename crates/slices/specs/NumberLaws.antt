-- Laws that the checker has shown: a number that was put is read back, and bytes that were read as a number are put again.
use Rattle.std.specs.Prelude.{ℕ, zero, suc, ◌+◌, ◌*◌, ◌/◌, ◌%◌, ◌≤◌, ◌<◌, List, [], ◌∷◌, ◌++◌, ◌≡◌, refl, length, take, drop}
use Rattle.std.proofs.Math.Path.{sym, ap}
use Rattle.std.proofs.Common.{◌∙◌, add-zero, div-add-mod', drop-drop, get_or-drop, get_or-take, take-add}
use native.Mathlib.Omega.{arith}
use Rattle.std.proofs.Math.ListN.{get_or}
use Rattle.slices.specs.Slices.{AllBytes, part_of, tabulate}
use Rattle.slices.specs.Numbers.{u16_bytes, u32_bytes, u16s_bytes, u16_at, u32_at, u16s_at}
use Rattle.slices.specs.PieceLaws.{part_tabulated}

-- every number, with any bytes behind it
pub u16_decoded : (n : ℕ) (rest : List ℕ) → u16_at (u16_bytes n ++ rest) 0 ≡ n
u16_decoded n rest = div-add-mod' n 256

pub u32_decoded : (n : ℕ) (rest : List ℕ) → u32_at (u32_bytes n ++ rest) 0 ≡ n
u32_decoded n rest = simp div-add-mod'

pub u16s_length : (numbers : List ℕ) → length (u16s_bytes numbers) ≡ 2 * length numbers
u16s_length [] = refl
u16s_length (n ∷ ns) = omega (arith, u16s_length ns)

-- a number in a part is the one that stands there in the whole
pub u16_in_part : (s : List ℕ) (at n i : ℕ) → i + 2 ≤ n → u16_at (part_of s at n) i ≡ u16_at s (at + i)
u16_in_part s at n i h =
    let high : get_or (part_of s at n) i 0 ≡ get_or s (at + i) 0 = get_or-take n (drop at s) i 0 (omega arith) ∙ get_or-drop at s i 0 in
    let low : get_or (part_of s at n) (i + 1) 0 ≡ get_or s (at + (i + 1)) 0 = get_or-take n (drop at s) (i + 1) 0 (omega arith) ∙ get_or-drop at s (i + 1) 0 in
    let place : at + (i + 1) ≡ at + i + 1 = omega arith in
    (λ j. high j * 256 + (low ∙ ap (λ (m : ℕ). get_or s m 0) place) j)

-- the bytes that stand where a number was read
u16_bytes_law : (a b : ℕ) → b < 256 → u16_bytes (a * 256 + b) ≡ a ∷ b ∷ []
u16_bytes_law a b h =
    let d : (a * 256 + b) / 256 ≡ a = omega arith in
    let m : (a * 256 + b) % 256 ≡ b = omega arith in
    rw (d, m)

u32_u16s : (a b : ℕ) → b < 65536 → u32_bytes (a * 65536 + b) ≡ u16_bytes a ++ u16_bytes b
u32_u16s a b h =
    let d : (a * 65536 + b) / 65536 ≡ a = omega arith in
    let m : (a * 65536 + b) % 65536 ≡ b = omega arith in
    rw (d, m)

module _ (s : List ℕ) (small : AllBytes s) where
  pub u16_small : (at : ℕ) → u16_at s at < 65536
  unfolding AllBytes
  u16_small at = let a = small at in let b = small (at + 1) in omega arith

  pub u16_encoded : (at : ℕ) → at + 2 ≤ length s → u16_bytes (u16_at s at) ≡ part_of s at 2
  unfolding AllBytes
  u16_encoded at h =
      let first : get_or s (at + 0) 0 ≡ get_or s at 0 = ap (λ (i : ℕ). get_or s i 0) (add-zero at) in
      u16_bytes_law (get_or s at 0) (get_or s (at + 1) 0) (small (at + 1))
      ∙ (λ j. sym first j ∷ get_or s (at + 1) 0 ∷ [])
      ∙ part_tabulated 2 s at h

  pub u32_encoded : (at : ℕ) → at + 4 ≤ length s → u32_bytes (u32_at s at) ≡ part_of s at 4
  u32_encoded at h =
      u32_u16s (u16_at s at) (u16_at s (at + 2)) (u16_small (at + 2))
      ∙ (λ j. u16_encoded at (omega arith) j ++ u16_encoded (at + 2) (omega arith) j)
      ∙ ap (λ (l : List ℕ). part_of s at 2 ++ take 2 l) (sym (drop-drop 2 at s))
      ∙ sym (take-add 2 2 (drop at s))

  pub u16s_encoded : (n at : ℕ) → at + 2 * n ≤ length s → u16s_bytes (u16s_at s at n) ≡ part_of s at (2 * n)
  u16s_encoded zero at h = refl
  u16s_encoded (suc n) at h =
      let e : 2 * suc n ≡ 2 + 2 * n = omega arith in
      let place : (i : ℕ) → at + 2 * suc i ≡ at + 2 + 2 * i = λ i. omega arith in
      let first : u16_bytes (u16_at s (at + 0)) ≡ part_of s at 2 = ap (λ (i : ℕ). u16_bytes (u16_at s i)) (add-zero at) ∙ u16_encoded at (omega arith) in
      let others : u16s_bytes (tabulate n (λ i. u16_at s (at + 2 * suc i))) ≡ part_of s (at + 2) (2 * n) =
      (λ j. u16s_bytes (tabulate n (λ i. u16_at s (place i j)))) ∙ u16s_encoded n (at + 2) (omega arith)
      in
      (λ j. first j ++ others j)
      ∙ ap (λ (l : List ℕ). part_of s at 2 ++ take (2 * n) l) (sym (drop-drop 2 at s))
      ∙ sym (take-add 2 (2 * n) (drop at s))
      ∙ ap (λ (i : ℕ). part_of s at i) (sym e)
