-- Laws that the checker has shown: what holds with a byte and without one holds of if_fetched; what holds with an address and without
-- one holds of if_resolved.
use Rattle.std.specs.Prelude.{◌≡◌, ℕ, Option, Some, None, refl}
use Rattle.steps.specs.Address.{if_fetched, if_resolved}
use Rattle.common.specs.declared.places.Address.{Address}

pub byte_all {ℓ} : {A : Type 0} (P : A → Type ℓ) {f : Option ℕ} {s : A} {g : ℕ → A} → (f ≡ None → P s) → ((b : ℕ) → f ≡ Some b → P (g b)) → P (if_fetched f s g)
unfolding if_fetched
byte_all P {f = Some b} h k = k b refl
byte_all P {f = None} h k = h refl

pub address_all {ℓ} : {A : Type 0} (P : A → Type ℓ) {f : Option Address} {s : A} {g : Address → A} → (f ≡ None → P s) → ((a : Address) → f ≡ Some a → P (g a)) → P (if_resolved f s g)
unfolding if_resolved
address_all P {f = Some a} h k = k a refl
address_all P {f = None} h k = h refl
