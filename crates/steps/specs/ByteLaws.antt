-- Laws that the checker has shown: a byte with one subtracted.
use Rattle.std.specs.Prelude.{◌≡◌, ℕ, ◌+◌, ◌%◌, ◌<◌}
use Rattle.std.proofs.Common.{arith}

-- one less, modulo 256
pub stepped_down : (r : ℕ) {v : ℕ} → r < 256 → (r + 1) % 256 ≡ v → r ≡ (v + 255) % 256
stepped_down r h e = omega arith
