-- Laws that the checker has shown: an answer that is no refusal, and lists of conditions in parts.
use Rattle.std.specs.Prelude.{ℕ, zero, suc, ◌≤◌, Bool, not, ◌≡◌, eqb}
use Rattle.std.proofs.Math.Bool.{true, false}
use Rattle.std.proofs.lemmas.Bool.{false≢true}
use mathlib.Core.List.{List, [], ◌∷◌, ◌++◌, append-nil}
use Rattle.std.proofs.Math.Path.{refl}
use Rattle.std.proofs.Common.{sym, ap, ◌∙◌, arith, ne_eqb}
use Rattle.common.specs.Choice.{when◌then◌else◌}
use Rattle.common.specs.Refusals.{Condition, unless, refusal_by, refusal_number}
use Rattle.common.specs.declared.refusals.Refusal.{Refusal}
use Rattle.common.specs.declared.refusals.Refusal.TheVariants.{NotSound, OtherLength, NoSlot, Taken, Empty, Frame, Form, Board, Values, Code, Input, PastEnd, Meets, Unread, NoInput, Short, Size, NoExtent}

-- no condition of the list holds
abbrev pub NoneHolds : List Condition → Type 0
NoneHolds [] = Unit {0}
NoneHolds (k ∷ ks) = (k.holds ≡ false) × NoneHolds ks

-- something holds of each number of the list
abbrev pub EachNumber : (ℕ → Type 0) → List Condition → Type 0
EachNumber P [] = Unit {0}
EachNumber P (k ∷ ks) = P k.number × EachNumber P ks

module _ {A : Type 0} (refused : ℕ → A) where
  -- then the answer is the one behind the list
  pub none_unless : (ks : List Condition) (a : A) → NoneHolds ks → unless refused ks a ≡ a
  unfolding unless when◌then◌else◌
  none_unless [] a h = refl
  none_unless (k ∷ ks) a h = rw h.0 (none_unless ks a h.1)

  -- and so it is where the answer is no refusal
  pub unless_none : (ks : List Condition) (a : A) {z : A} → ((n : ℕ) → refused n ≡ z → ⊥) → unless refused ks a ≡ z → NoneHolds ks × (a ≡ z)
  unfolding unless when◌then◌else◌
  unless_none [] a never e = (tt, e)
  unless_none (k ∷ ks) a {z} never e = go k.holds refl e (unless_none ks a never)
    where
      go : (b : Bool) → k.holds ≡ b → (when b then refused k.number else unless refused ks a) ≡ z → (unless refused ks a ≡ z → NoneHolds ks × (a ≡ z))
          → NoneHolds (k ∷ ks) × (a ≡ z)
      go true q e further = absurd (never k.number e)
      go false q e further = let r = further e in ((q, r.0), r.1)

  -- a refusal does not depend on what stands behind the list
  pub unless_refused : (ks : List Condition) (a b : A) {z : A} → (a ≡ z → ⊥) → unless refused ks a ≡ z → unless refused ks b ≡ z
  unfolding unless when◌then◌else◌
  unless_refused [] a b never e = absurd (never e)
  unless_refused (k ∷ ks) a b {z} never e = go k.holds e (unless_refused ks a b never)
    where
      go : (c : Bool) → (when c then refused k.number else unless refused ks a) ≡ z → (unless refused ks a ≡ z → unless refused ks b ≡ z)
          → (when c then refused k.number else unless refused ks b) ≡ z
      go true e further = e
      go false e further = further e

  -- what holds of each refusal by a number of the list, and of the answer behind the list, holds of the answer
  pub unless_holds : (P : A → Type 0) (ks : List Condition) (a : A) → EachNumber (λ n. P (refused n)) ks → P a → P (unless refused ks a)
  unfolding unless when◌then◌else◌
  unless_holds P [] a each last = last
  unless_holds P (k ∷ ks) a each last = go k.holds (unless_holds P ks a each.1 last)
    where
      go : (b : Bool) → P (unless refused ks a) → P (when b then refused k.number else unless refused ks a)
      go true further = each.0
      go false further = further

-- ---- numbers that refuse

-- no condition that holds gives 0
abbrev pub NoneGivesZero : List Condition → Type 0
NoneGivesZero [] = Unit {0}
NoneGivesZero (k ∷ ks) = (k.holds ≡ true → 1 ≤ k.number) × NoneGivesZero ks

-- a condition that holds exactly if its number is not 0
pub given_numbered : (n : ℕ) → not (eqb n 0) ≡ true → 1 ≤ n
given_numbered zero e = absurd (false≢true e)
given_numbered (suc n) e = omega arith

-- two lists, one behind the other
pub numbered_parts : (ks more : List Condition) → NoneGivesZero ks → NoneGivesZero more → NoneGivesZero (ks ++ more)
numbered_parts [] more n m = m
numbered_parts (k ∷ ks) more n m = (n.0, numbered_parts ks more n.1 m)

pub none_parts : (ks more : List Condition) → NoneHolds (ks ++ more) → NoneHolds ks × NoneHolds more
none_parts [] more h = (tt, h)
none_parts (k ∷ ks) more h = let r = none_parts ks more h.1 in ((h.0, r.0), r.1)

-- then the refusal 0 of two lists says that none of the first holds, and that the second refuses nothing
pub zero_parts : (ks more : List Condition) → NoneGivesZero ks → refusal_by (ks ++ more) ≡ 0 → NoneHolds ks × (refusal_by more ≡ 0)
unfolding refusal_by unless when◌then◌else◌
zero_parts [] more n e = (tt, e)
zero_parts (k ∷ ks) more n e = go k.holds refl e (zero_parts ks more n.1)
  where
    go : (b : Bool) → k.holds ≡ b → (when b then k.number else refusal_by (ks ++ more)) ≡ 0
        → (refusal_by (ks ++ more) ≡ 0 → NoneHolds ks × (refusal_by more ≡ 0)) → NoneHolds (k ∷ ks) × (refusal_by more ≡ 0)
    go true q e further = let p : 1 ≤ k.number = n.0 q in absurd (omega arith)
    go false q e further = let r = further e in ((q, r.0), r.1)

pub none_holds : (ks : List Condition) → NoneGivesZero ks → refusal_by ks ≡ 0 → NoneHolds ks
none_holds ks n e = (zero_parts ks [] n (ap refusal_by (append-nil ks) ∙ e)).0

-- two lists refuse as the second does, if the first refuses nothing
pub refusal_parts : (ks more : List Condition) → NoneGivesZero ks
    → refusal_by (ks ++ more) ≡ (when eqb (refusal_by ks) 0 then refusal_by more else refusal_by ks)
unfolding refusal_by unless when◌then◌else◌
refusal_parts [] more n = refl
refusal_parts (k ∷ ks) more n = go k.holds refl (refusal_parts ks more n.1)
  where
    go : (b : Bool) → k.holds ≡ b
        → refusal_by (ks ++ more) ≡ (when eqb (refusal_by ks) 0 then refusal_by more else refusal_by ks)
        → (when b then k.number else refusal_by (ks ++ more))
        ≡ (when eqb (when b then k.number else refusal_by ks) 0 then refusal_by more else (when b then k.number else refusal_by ks))
    go true q further = let p : 1 ≤ k.number = n.0 q in rw (ne_eqb k.number 0 (λ e. omega arith))
    go false q further = further

pub refused_by_front : (ks more : List Condition) → NoneGivesZero ks → {n : ℕ} → n ≡ refusal_by ks → (n ≡ 0 → ⊥) → n ≡ refusal_by (ks ++ more)
unfolding when◌then◌else◌
refused_by_front ks more h {n} e some = sym (refusal_parts ks more h ∙ rw (← e, ne_eqb n 0 some))

pub left_to_rest : (ks more : List Condition) → NoneGivesZero ks → {n : ℕ} → n ≡ refusal_by ks → n ≡ 0 → refusal_by (ks ++ more) ≡ refusal_by more
unfolding when◌then◌else◌
left_to_rest ks more h {n} e none = refusal_parts ks more h ∙ rw (← e, none)

-- conditions of which none holds, behind others, change nothing
pub none_behind : (ks more : List Condition) → NoneHolds more → refusal_by (ks ++ more) ≡ refusal_by ks
unfolding refusal_by unless when◌then◌else◌
none_behind [] more h = none_unless (λ n. n) more 0 h
none_behind (k ∷ ks) more h = go k.holds (none_behind ks more h)
  where
    go : (b : Bool) → refusal_by (ks ++ more) ≡ refusal_by ks → (when b then k.number else refusal_by (ks ++ more)) ≡ (when b then k.number else refusal_by ks)
    go true further = refl
    go false further = further

-- ---- the refusals of the code

-- none has the number 0
pub number_some : (refusal : Refusal) → refusal_number refusal ≡ 0 → ⊥
number_some NotSound e = omega (arith, e)
number_some OtherLength e = omega (arith, e)
number_some NoSlot e = omega (arith, e)
number_some Taken e = omega (arith, e)
number_some Empty e = omega (arith, e)
number_some Frame e = omega (arith, e)
number_some Form e = omega (arith, e)
number_some Board e = omega (arith, e)
number_some Values e = omega (arith, e)
number_some Code e = omega (arith, e)
number_some Input e = omega (arith, e)
number_some PastEnd e = omega (arith, e)
number_some Meets e = omega (arith, e)
number_some Unread e = omega (arith, e)
number_some NoInput e = omega (arith, e)
number_some Short e = omega (arith, e)
number_some Size e = omega (arith, e)
number_some NoExtent e = omega (arith, e)
