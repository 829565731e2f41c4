-- Laws that the checker has shown: what a check answers that makes others first, written with `?`, by lists of conditions in parts.
use Rattle.std.specs.Prelude.{ℕ, List, ◌++◌, ◌≡◌, Result, Ok, Err, IsErrAnd, MatchResult, is_ok}
use Rattle.std.proofs.Common.{refl, sym, ap, ◌∙◌, subst}
use Rattle.std.proofs.lemmas.Bool.{false≢true}
use Rattle.std.proofs.lemmas.Result.{err_from_is_err_and}
use Rattle.common.specs.RefusalLaws.{NoneGivesZero, number_some, refused_by_front, left_to_rest}
use Rattle.common.specs.Refusals.{Condition, refusal_by, refusal_in, refusal_number}
use Rattle.common.specs.declared.refusals.Refusal.{Refusal}
use Rattle.table.specs.declared.table.RefusedCall.{RefusedCall}
use Rattle.table.specs.declared.table.Table.{Table}

-- what `?` hands on
pub handed_on : {A : Type 0} (r : Result A Refusal) (e : Refusal) → IsErrAnd r (λ y. y ≡ e) → refusal_in r ≡ refusal_number e
handed_on r e h = let (y, is, same) = err_from_is_err_and r h in ap refusal_in is ∙ ap refusal_number same

-- of two lists, the first refuses; or it refuses nothing, and the rest is left to the second
module _ (ks more : List Condition) (numbered : NoneGivesZero ks) where
  pub front_refuses : {A : Type 0} (r : Result A Refusal) (e : Refusal) → refusal_number e ≡ refusal_by ks → IsErrAnd r (λ y. y ≡ e)
      → refusal_in r ≡ refusal_by (ks ++ more)
  front_refuses r e refused h = handed_on r e h ∙ refused_by_front ks more numbered refused (number_some e)

  pub front_passes : {n : ℕ} → 0 ≡ refusal_by ks → n ≡ refusal_by more → n ≡ refusal_by (ks ++ more)
  front_passes passed rest = rest ∙ sym (left_to_rest ks more numbered passed refl)

-- a check whose refusal is handed on with the table, by `map_err` and `?`
module _ {A : Type 0} (check : Result A Refusal) (mapped : Result A RefusedCall) where
  pub refused_with : {B : Type 0} {P : Refusal → RefusedCall → Type 0} (e : RefusedCall) (r : Result B RefusedCall) (t : Table)
      → MatchResult check (λ a. mapped ≡ Ok a) (λ q. IsErrAnd mapped (P q)) → mapped ≡ Err e
      → IsErrAnd r (λ y. y ≡ e) → ((q : Refusal) (y : RefusedCall) → P q y → y ≡ record { refusal = q; table = t })
      → (q : Refusal) × (r ≡ Err (record { refusal = q; table = t })) × (refusal_in check ≡ refusal_number q)
  refused_with {B} {P} e r t cases was h with_table = go check cases
    where
      go : (c : Result A Refusal) → MatchResult c (λ a. mapped ≡ Ok a) (λ q. IsErrAnd mapped (P q))
          → (q : Refusal) × (r ≡ Err (record { refusal = q; table = t })) × (refusal_in c ≡ refusal_number q)
      go (Ok a) m = absurd (subst (λ (z : Result A RefusedCall). MatchResult z (λ _. Unit {0}) (λ _. ⊥)) (sym m ∙ was) tt)
      go (Err q) m =
          let (y, is, same) = err_from_is_err_and r h in
          let kept : e ≡ record { refusal = q; table = t } = with_table q e (subst (λ (z : Result A RefusedCall). IsErrAnd z (P q)) was m) in
          (q, is ∙ ap (λ (z : RefusedCall). Err z) (same ∙ kept), refl)

  pub passed_with : (a : A) → is_ok mapped ≡ is_ok check → mapped ≡ Ok a → refusal_in check ≡ 0
  passed_with a variant was = go check variant
    where
      go : (c : Result A Refusal) → is_ok mapped ≡ is_ok c → refusal_in c ≡ 0
      go (Ok x) m = refl
      go (Err q) m = absurd (false≢true (sym m ∙ ap is_ok was))
