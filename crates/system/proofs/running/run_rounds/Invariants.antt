-- `system::running::run_rounds`: quanta make a round, and rounds a run.
use mathlib.Core.Path.{◌≡◌}
use lib.ListN.{length}
use Rattle.common.specs.Repetition.{times}
use Rattle.system.specs.Running.{slot_quanta}
use Rattle.system.specs.System.{system}
use Rattle.system.proofs.running.run_rounds.Given as goal

abbrev pub invariant-loop-k : goal.invariant-loop-k
invariant-loop-k l = (length l.memory ≡ length l.initial.memory) × (system l.next l.memory ≡ slot_quanta l.k (system l.initial.next l.initial.memory))

abbrev pub invariant-loop-round : goal.invariant-loop-round
invariant-loop-round l = (length l.memory ≡ length l.initial.memory) × (system l.next l.memory ≡ times l._round (slot_quanta 8) (system l.initial.next l.initial.memory))
