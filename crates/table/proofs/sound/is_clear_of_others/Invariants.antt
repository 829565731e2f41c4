-- `table::sound::is_clear_of_others`: a loop over `all_below` (AllBelowLaws.antt).
use mathlib.Core.Path.{◌≡◌}
use Rattle.std.specs.Prelude.{◌||◌, eqb}
use Rattle.common.specs.Tests.{all_below}
use Rattle.table.specs.Sound.{are_apart}
use Rattle.table.specs.Table.{slot_at}
use Rattle.table.proofs.sound.is_clear_of_others.Given as goal

abbrev pub invariant-loop-j : goal.invariant-loop-j
invariant-loop-j l = l.ok ≡ all_below l.j (λ j. eqb j l.fn.except || are_apart (slot_at l.fn.table j).partition l.fn.p)
