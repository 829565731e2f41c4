-- Laws that the checker has shown: what a recount answers.
use Rattle.std.specs.Prelude.{Bool, true, false, ◌≡◌, refl}
use Rattle.std.proofs.Common.{ap, ◌∙◌, arith}
use Rattle.common.specs.ConditionDefinitions.{condition_definitions}
use Rattle.table.specs.FreeBytes.{counted}
use Rattle.table.specs.Recounting.{recount_of}
use Rattle.table.specs.Sound.{slots_sound}
use Rattle.table.specs.Table.{Answer, answer}
use Rattle.table.specs.declared.table.Table.{Table}

-- sound slots are counted, and others refused by 1
pub recount_sound : (t : Table) → slots_sound t ≡ true → recount_of t ≡ answer 0 (counted t)
unfolding recount_of condition_definitions
recount_sound t h = rw h

pub recount_unsound : (t : Table) → slots_sound t ≡ false → recount_of t ≡ answer 1 t
unfolding recount_of condition_definitions
recount_unsound t h = rw h

-- the same for whoever knows the answer
module _ (t : Table) {a : Answer} (e : a ≡ recount_of t) where
  pub recount_accepted : a.refusal ≡ 0 → (slots_sound t ≡ true) × (a.table ≡ counted t)
  recount_accepted none = go (slots_sound t) refl
    where
      go : (b : Bool) → slots_sound t ≡ b → (slots_sound t ≡ true) × (a.table ≡ counted t)
      go true h = (h, ap (λ (r : Answer). r.table) (e ∙ recount_sound t h))
      go false h = absurd (omega (arith, ap (λ (r : Answer). r.refusal) (e ∙ recount_unsound t h)))

  pub recount_refused : (a.refusal ≡ 0 → ⊥) → (slots_sound t ≡ false) × (a.refusal ≡ 1)
  recount_refused some = go (slots_sound t) refl
    where
      go : (b : Bool) → slots_sound t ≡ b → (slots_sound t ≡ false) × (a.refusal ≡ 1)
      go true h = absurd (some (ap (λ (r : Answer). r.refusal) (e ∙ recount_sound t h)))
      go false h = (h, ap (λ (r : Answer). r.refusal) (e ∙ recount_unsound t h))
