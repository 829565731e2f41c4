use mathlib.Core.Path.{◌≡◌}
use lib.ListN.{take}
use Rattle.slices.specs.Slices.{copied}
use Rattle.listing.specs.Text.{fields}
use Rattle.listing.proofs.text.put_fields.Given as goal

abbrev pub invariant-loop-i : goal.invariant-loop-i
invariant-loop-i l = l.text ≡ copied l.initial.text l.at (fields (take l.i l.bytes))
