use Prim.Native.Nat.{ℕ, ◌+◌, ◌-◌, ◌<◌}
use mathlib.Core.Path.{◌≡◌, refl, sym, ap, ◌∙◌}
use native.Mathlib.Omega.{arith}
use borrow.Author.Tests.{lt-ltb}
use Rattle.std.specs.Prelude.{true, false, ltb, ◌&&◌}
use Rattle.system.specs.System.{System, system}
use Rattle.listing.specs.UntilStopped.{until_stopped}
use Rattle.listing.specs.ListingLaws.{until_more, until_done}
use Rattle.listing.proofs.until_stopped.run_until_stopped.Goals as goal

pub loop-round-preserved : goal.loop-round-preserved
loop-round-preserved c = let here = c.loop-round in
    let x : System = system here.next here.memory in
    let left : 1000 - (here._round + 1) ≡ 1000 - here._round - 1 = omega arith in
    let some : 0 < 1000 - here._round = omega (arith, c.loop-round-test.true) in
    ap (λ (n : ℕ). until_stopped n (system c.make_round-next.result c.make_round-next.new.memory)) left
    ∙ ap (until_stopped _) c.make_round-next.ensures
    ∙ sym (until_more (1000 - here._round) x {b = true} (sym c.if-not-is_running.false ∙ c.is_running.ensures) (rw (lt-ltb 0 (1000 - here._round) some) refl))
    ∙ here.invariant

pub returns-after-loop-round : goal.returns-after-loop-round
unfolding until_stopped
returns-after-loop-round c = let here = c.loop-round in
    let none : 1000 - here._round ≡ 0 = omega (arith, c.loop-round-test.false) in
    rw none at here.invariant

pub returns-then-not-is_running : goal.returns-then-not-is_running
returns-then-not-is_running c = let here = c.loop-round in
    let some : 0 < 1000 - here._round = omega (arith, c.loop-round-test.true) in
    let none : (ltb 0 (1000 - here._round) && false) ≡ false = rw (lt-ltb 0 (1000 - here._round) some) refl in
    sym (until_done (1000 - here._round) (system here.next here.memory) {b = false} (sym c.if-not-is_running.true ∙ c.is_running.ensures) none) ∙ here.invariant
