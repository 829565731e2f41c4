-- `table::sound::each_slot_sound`: of every slot, so of each of the eight (AllBelowLaws.antt).
use Rattle.std.proofs.Common.{◌≡◌, length, ◌∙◌, rules, tests}
use Rattle.std.proofs.lemmas.Iterator.{YieldsList-from_slice}
use Rattle.std.proofs.lemmas.Iterator.Search.{all_from_yields_List}
use Rattle.common.specs.AllBelowLaws.{each_listed}
use Rattle.table.specs.Sound.{slot_sound}
use Rattle.table.specs.Table.{no_slot, slot_at}
use Rattle.table.specs.declared.table.Slot.{Slot}
use Rattle.table.proofs.sound.each_slot_sound.Goals as goal

pub returns : goal.returns
unfolding slot_at
returns c = let slots = c.args.table.slots in
    let eight : length slots ≡ 8 = search (rules, c.well_formed) in
    all_from_yields_List (λ (s : Slot). slot_sound c.args.table.size s) _ _ c.all.result c.all.ensures.ran (YieldsList-from_slice slots cc) (λ s b q k. search (rules, tests))
    ∙ each_listed (λ (s : Slot). slot_sound c.args.table.size s) no_slot slots 8 eight
