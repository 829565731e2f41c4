-- Laws that the checker has shown: small numbers in an i16.
use Rattle.std.specs.Prelude.{Bool, ◌≡◌, ℕ, suc, ◌-◌, ◌≤◌, ◌<◌, ◌^◌, ℤ, pos, negsuc, ◌-ℤ◌}
use Rattle.std.proofs.Common.{ap, ◌∙◌, arith, lt-ltb, to_z-of_z}
use Rattle.std.specs.Int.Signed.{mag, lt_z}
use Rattle.std.specs.Int.{w16}
use mir.Val.{to_z, of_z, SFits, hbits}
use Rattle.std.proofs.Math.Facts.{to_z_pos}

-- a number below 2 ^ 15, and one from which a larger numeral is taken
pub as_signed : (b : ℕ) → b < 32768 → to_z w16 b ≡ pos b
as_signed b h = to_z_pos w16 h

pub signed_minus : (b k : ℕ) → b ≤ k → k < 32768 → to_z w16 b -ℤ pos (suc k) ≡ negsuc (k - b)
signed_minus b k h l =
    rw (as_signed b (omega arith))
    (rw (lt-ltb b (suc k) (omega arith))
    (ap negsuc (omega arith)))

pub signed_minus_fits : (b k : ℕ) → b ≤ k → k < 32768 → SFits w16 (to_z w16 b -ℤ pos (suc k))
signed_minus_fits b k h l = rw (signed_minus b k h l) (record { sfits = omega arith })

pub signed_minus_back : (b k : ℕ) → b ≤ k → k < 32768 → to_z w16 (of_z w16 (to_z w16 b -ℤ pos (suc k))) ≡ negsuc (k - b)
signed_minus_back b k h l = to_z-of_z (signed_minus_fits b k h l) ∙ signed_minus b k h l

-- what a test of two i16 locals tells of the numbers that they hold
pub signed_test : (x y x' y' : ℤ) (t : Bool) → mag x < 2 ^ hbits w16 → mag y < 2 ^ hbits w16 → x ≡ x' → y ≡ y' → lt_z (to_z w16 (of_z w16 x)) (to_z w16 (of_z w16 y)) ≡ t → lt_z x' y' ≡ t
signed_test x y x' y' t fx fy ex ey h =
    rw (← ex, ← ey)
    (rw (to_z-of_z {w = w16} {z = x} (record { sfits = fx }), to_z-of_z {w = w16} {z = y} (record { sfits = fy })) at h)
