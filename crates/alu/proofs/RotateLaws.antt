-- A byte rotated by std's methods.
use Rattle.std.specs.Prelude.{ℕ, ◌≡◌, ◌<◌, ◌+◌, ◌*◌, ◌/◌, ◌%◌, ◌^◌}
use Rattle.std.proofs.Common.{arith, ap, ◌∙◌}
use Rattle.std.specs.Int.{w8, rotate_left, rotate_right}
use lib.Bits.{bit_or, or_zero_r, or_zero_l}
use Rattle.std.proofs.lemmas.Nat.{or_block}

pub rotate_left_law : (b : ℕ) → b < 256 → rotate_left w8 b 1 ≡ b % 128 * 2 + b / 128
rotate_left_law b l =
    let e : b * 2 % 256 ≡ b % 128 * 2 ^ 1 + 0 = omega arith in
    let f : b / 128 ≡ 0 * 2 ^ 1 + b / 128 = omega arith in
    ap (λ (n : ℕ). bit_or n (b / 128)) e ∙ ap (λ (n : ℕ). bit_or (b % 128 * 2 ^ 1 + 0) n) f ∙ or_block 1 (b % 128) 0 0 (b / 128) (omega arith) (omega arith) ∙ rw (or_zero_r (b % 128), or_zero_l (b / 128))

pub rotate_right_law : (b : ℕ) → b < 256 → rotate_right w8 b 1 ≡ b % 2 * 128 + b / 2
rotate_right_law b l =
    let e : b * 128 % 256 ≡ b % 2 * 2 ^ 7 + 0 = omega arith in
    let f : b / 2 ≡ 0 * 2 ^ 7 + b / 2 = omega arith in
    ap (λ (n : ℕ). bit_or (b / 2) n) e ∙ ap (λ (n : ℕ). bit_or n (b % 2 * 2 ^ 7 + 0)) f ∙ or_block 7 0 (b % 2) (b / 2) 0 (omega arith) (omega arith) ∙ rw (or_zero_l (b % 2), or_zero_r (b / 2))

-- what the proofs of rotates look for
pub ruleset rotate_laws = (rotate_left_law, rotate_right_law)
