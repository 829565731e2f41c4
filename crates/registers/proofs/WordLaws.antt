-- A part of a word is exchanged by exclusive or.
use mathlib.Core.Path.{◌≡◌, refl, sym, ap, ◌∙◌}
use Prim.Native.Nat.{ℕ, zero, suc, ◌+◌, ◌*◌, ◌/◌, ◌%◌, ◌-◌, ◌<◌, ◌≤◌, ◌^◌}
use native.Mathlib.Omega.{arith}
use lib.Bits.{bit_xor, differ, xor_step, xor_lt, xor_block, xor_zero_r}
use Rattle.std.proofs.Math.Nat.{div-add-mod, mod-lt, mod-eq_of_lt, mul-lt-mul_of_pos_right, one-le-pow}
use Rattle.std.proofs.Math.Pow.{pow_mono}
use Rattle.std.proofs.lemmas.Nat.{pow-add}

differ_bit : (x y : ℕ) → x < 2 → y < 2 → differ x y < 2
differ_bit zero y p q = q
differ_bit (suc zero) zero p q = omega arith
differ_bit (suc zero) (suc zero) p q = omega arith
differ_bit (suc zero) (suc (suc y)) p q = absurd (omega arith)
differ_bit (suc (suc x)) y p q = absurd (omega arith)

differ_twice : (x y : ℕ) → x < 2 → y < 2 → differ x (differ x y) ≡ y
differ_twice zero y p q = refl
differ_twice (suc zero) zero p q = refl
differ_twice (suc zero) (suc zero) p q = refl
differ_twice (suc zero) (suc (suc y)) p q = absurd (omega arith)
differ_twice (suc (suc x)) y p q = absurd (omega arith)

half_bits : (z x d : ℕ) → z ≡ x * 2 + d → d < 2 → (z / 2 ≡ x) × (z % 2 ≡ d)
half_bits z x d e l = (omega arith, omega arith)

xor_cancels : (n a b : ℕ) → a ≤ n → b ≤ n → bit_xor a (bit_xor a b) ≡ b
xor_cancels zero a b p q = let e : a ≡ 0 = omega arith in let f : b ≡ 0 = omega arith in rw (e, f)
xor_cancels (suc n) a b p q =
    let h = half_bits (bit_xor a b) (bit_xor (a / 2) (b / 2)) (differ (a % 2) (b % 2)) (xor_step a b) (differ_bit (a % 2) (b % 2) (omega arith) (omega arith)) in
    let ih : bit_xor (a / 2) (bit_xor (a / 2) (b / 2)) ≡ b / 2 = xor_cancels n (a / 2) (b / 2) (omega arith) (omega arith) in
    let u : differ (a % 2) (differ (a % 2) (b % 2)) ≡ b % 2 = differ_twice (a % 2) (b % 2) (omega arith) (omega arith) in
    let v : b / 2 * 2 + b % 2 ≡ b = omega arith in
    xor_step a (bit_xor a b)
    ∙ ap (λ (z : ℕ). bit_xor (a / 2) z * 2 + differ (a % 2) (bit_xor a b % 2)) h.0
    ∙ ap (λ (z : ℕ). bit_xor (a / 2) (bit_xor (a / 2) (b / 2)) * 2 + differ (a % 2) z) h.1
    ∙ ap (λ (z : ℕ). z * 2 + differ (a % 2) (differ (a % 2) (b % 2))) ih
    ∙ ap (λ (z : ℕ). b / 2 * 2 + z) u
    ∙ v

-- o in the middle becomes v: j bits of it, k bits below it
xor_middle : (j k h o v l : ℕ) → o < 2 ^ j → v < 2 ^ j → l < 2 ^ k → bit_xor ((h * 2 ^ j + o) * 2 ^ k + l) (bit_xor o v * 2 ^ k + 0) ≡ (h * 2 ^ j + v) * 2 ^ k + l
xor_middle j k h o v l p q r =
    let z : 0 < 2 ^ k = omega (arith, r) in
    let one = xor_block k (h * 2 ^ j + o) (bit_xor o v) l 0 r z in
    let two : bit_xor (h * 2 ^ j + o) (0 * 2 ^ j + bit_xor o v) ≡ bit_xor h 0 * 2 ^ j + bit_xor o (bit_xor o v) = xor_block j h 0 o (bit_xor o v) p (xor_lt j o v p q) in
    let three : 0 * 2 ^ j + bit_xor o v ≡ bit_xor o v = omega arith in
    let four : bit_xor o (bit_xor o v) ≡ v = xor_cancels (o + v) o v (omega arith) (omega arith) in
    one
    ∙ ap (λ (y : ℕ). bit_xor (h * 2 ^ j + o) y * 2 ^ k + bit_xor l 0) (sym three)
    ∙ ap (λ (y : ℕ). y * 2 ^ k + bit_xor l 0) (two ∙ ap (λ (y : ℕ). y * 2 ^ j + bit_xor o (bit_xor o v)) (xor_zero_r h) ∙ ap (λ (y : ℕ). h * 2 ^ j + y) four)
    ∙ ap (λ (y : ℕ). (h * 2 ^ j + v) * 2 ^ k + y) (xor_zero_r l)

-- part o of w bits, k bits above the lowest, becomes v
pub set_part_law : (w k x v o : ℕ) → w + k ≤ 64 → v < 2 ^ w → o ≡ x / 2 ^ k % 2 ^ w → bit_xor x (bit_xor o v * 2 ^ k % 2 ^ 64) ≡ x - x / 2 ^ k % 2 ^ w * 2 ^ k + v * 2 ^ k
set_part_law w k x v o s l f =
    let h : ℕ = x / 2 ^ k / 2 ^ w in
    let low : ℕ = x % 2 ^ k in
    let p : o < 2 ^ w = rw f (mod-lt (x / 2 ^ k) (omega (arith, l))) in
    let q : 0 < 2 ^ k = one-le-pow k 2 (omega arith) in
    let r : low < 2 ^ k = mod-lt x q in
    let e : (h * 2 ^ w + o) * 2 ^ k + low ≡ x = grind (arith, div-add-mod x (2 ^ k), div-add-mod (x / 2 ^ k) (2 ^ w), f) in
    let a : bit_xor o v * 2 ^ k < 2 ^ w * 2 ^ k = mul-lt-mul_of_pos_right (xor_lt w o v p l) q in
    let m : 2 ^ (w + k) ≤ 2 ^ 64 = pow_mono s in
    let small : bit_xor o v * 2 ^ k < 2 ^ 64 = omega (arith, a, pow-add 2 w k, m) in
    let d : bit_xor o v * 2 ^ k % 2 ^ 64 ≡ bit_xor o v * 2 ^ k + 0 = mod-eq_of_lt small ∙ omega arith in
    ap (λ (z : ℕ). bit_xor x z) d
    ∙ ap (λ (z : ℕ). bit_xor z (bit_xor o v * 2 ^ k + 0)) (sym e)
    ∙ xor_middle w k h o v low p l r
    ∙ grind (arith, e, f)
