-- Laws that the checker has shown: what holds on each way holds of the choice between them.
use Rattle.std.specs.Prelude.{Bool, true, false, ◌≡◌, refl}
use Rattle.common.specs.Choice.{when◌then◌else◌}

pub if_all {ℓ} : {A : Type 0} (P : A → Type ℓ) {t : Bool} {a b : A} → (t ≡ true → P a) → (t ≡ false → P b) → P (when t then a else b)
unfolding when◌then◌else◌
if_all P {t = true} h k = h refl
if_all P {t = false} h k = k refl
