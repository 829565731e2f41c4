-- Definitions that must be believed: how many bytes a partition of that layout has, and which layouts there are
-- (document 01, "Pattern file, form 1", `PB`; document 02, U6).
use Rattle.std.specs.Prelude.{Bool, [], ◌∷◌, ℕ, ◌+◌, leb}
use Rattle.common.specs.Ranges.{is_one_to}
use Rattle.common.specs.Tests.{all}
use Rattle.common.specs.declared.layout.Layout.{Layout}

-- window, input and output stand without gaps
abbrev pub layout_size : Layout → ℕ
layout_size l = l.window + l.input + l.output

-- a window of 1 to 32,768 bytes, capacities of 1 to 4,096, and at most the whole window locked
unfoldable pub layout_sound : Layout → Bool
layout_sound l =
    all (is_one_to l.window 32768 ∷ is_one_to l.input 4096 ∷ is_one_to l.output 4096 ∷ leb l.locked l.window ∷ [])
