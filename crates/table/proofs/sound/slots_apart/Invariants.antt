-- `table::sound::slots_apart`: a loop over `all_below` (AllBelowLaws.antt).
use mathlib.Core.Path.{◌≡◌}
use Rattle.common.specs.Tests.{all_below}
use Rattle.table.specs.Sound.{is_clear_of_others}
use Rattle.table.specs.Table.{slot_at}
use Rattle.table.proofs.sound.slots_apart.Given as goal

abbrev pub invariant-loop-k : goal.invariant-loop-k
invariant-loop-k l = l.ok ≡ all_below l.k (λ k. is_clear_of_others l.fn.table k (slot_at l.fn.table k).partition)
