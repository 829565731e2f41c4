-- Laws that the checker has shown: none, one, one more, and so many and then so many more.
use Rattle.std.specs.Prelude.{◌≡◌}
use Rattle.std.proofs.Math.Path.{refl}
use Prim.Native.Nat.{ℕ, zero, suc, ◌+◌}
use Rattle.std.proofs.Common.{add-one}
use native.Mathlib.Omega.{arith}
use Rattle.common.specs.Repetition.{times}

module _ {A : Type 0} (f : A → A) where
  pub times_zero : (x : A) → times 0 f x ≡ x
  unfolding times
  times_zero x = refl

  pub times_one : (x : A) → times 1 f x ≡ f x
  unfolding times
  times_one x = refl

  pub times_suc : (n : ℕ) (x : A) → times (n + 1) f x ≡ f (times n f x)
  unfolding times
  times_suc n x = rw (add-one)

  pub times_add : (j k : ℕ) (x : A) → times (j + k) f x ≡ times j f (times k f x)
  unfolding times
  times_add zero k x = let h : 0 + k ≡ k = omega arith in rw h
  times_add (suc j) k x = let h : suc j + k ≡ suc (j + k) = omega arith in rw (h, times_add j k x)
