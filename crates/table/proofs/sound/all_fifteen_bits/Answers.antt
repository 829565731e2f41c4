-- `table::sound::all_fifteen_bits`: of each element, so of each place (AllBelowLaws.antt).
use lib.Dec.{ltb}
use Rattle.std.proofs.Common.{ℕ, length, refl, ◌∙◌, rules, tests}
use Rattle.std.proofs.lemmas.Iterator.{YieldsList-from_slice}
use Rattle.std.proofs.lemmas.Iterator.Search.{all_from_yields_List}
use Rattle.common.specs.AllBelowLaws.{each_listed}
use Rattle.table.specs.Sound.{all_fifteen_bits}
use Rattle.table.proofs.sound.all_fifteen_bits.Goals as goal

pub returns : goal.returns
unfolding all_fifteen_bits
returns c = let l = c.args.l.now in
    all_from_yields_List (λ (a : ℕ). ltb a 32768) _ _ c.all.result c.all.ensures.ran (YieldsList-from_slice l cc) (λ s b q k. search (rules, tests))
    ∙ each_listed (λ (a : ℕ). ltb a 32768) 0 l (length l) refl
