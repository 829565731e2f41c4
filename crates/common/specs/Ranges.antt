-- Definitions that must be believed: a range of numbers.
use Rattle.std.specs.Prelude.{ℕ, leb, Bool, ◌&&◌}

-- n is 1 to most
abbrev pub is_one_to : ℕ → ℕ → Bool
is_one_to n most = leb 1 n && leb n most
