-- Laws that the checker has shown: which access the lock stops.
use Rattle.std.specs.Prelude.{◌≡◌, ℕ, ◌<◌, ◌≤◌, true, false, refl}
use Rattle.std.proofs.Common.{lt-ltb, le-ltb, ltb-true, ltb-false}
use Rattle.steps.specs.Operand.{is_locked}
use Rattle.alu.specs.declared.alu.Operation.{Operation}
use Rattle.common.specs.declared.places.Address.{Address}
use Rattle.decode.specs.declared.decode.Access.TheVariants.{Read, Write}

-- it stops no read
pub read_free : (f : Operation) (a : Address) (n : ℕ) → is_locked (Read f) a n ≡ false
unfolding is_locked
read_free f a n = refl

-- it stops a store below n, and no other
pub store_locked : (a : Address) (n : ℕ) → a.0 < n → is_locked Write a n ≡ true
unfolding is_locked
store_locked a n h = lt-ltb _ _ h

pub store_free : (a : Address) (n : ℕ) → n ≤ a.0 → is_locked Write a n ≡ false
unfolding is_locked
store_free a n h = le-ltb _ _ h

pub locked_below : (a : Address) (n : ℕ) → is_locked Write a n ≡ true → a.0 < n
unfolding is_locked
locked_below a n e = ltb-true _ _ e

pub free_above : (a : Address) (n : ℕ) → is_locked Write a n ≡ false → n ≤ a.0
unfolding is_locked
free_above a n e = ltb-false _ _ e
