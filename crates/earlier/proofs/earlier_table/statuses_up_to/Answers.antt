-- `earlier::earlier_table::statuses_up_to`: of every slot, so of each of the eight (VersionLaws.antt).
use lib.Dec.{leb}
use lib.ListN.{length}
use mathlib.Core.Path.{◌≡◌, ◌∙◌}
use Rattle.std.proofs.Common.{rules, tests}
use Rattle.std.proofs.lemmas.Iterator.{YieldsList-from_slice}
use Rattle.std.proofs.lemmas.Iterator.Search.{all_from_yields_List}
use Rattle.earlier.specs.EarlierTable.{statuses_up_to}
use Rattle.table.specs.Table.{no_slot, slot_at}
use Rattle.table.specs.declared.table.Slot.{Slot}
use Rattle.earlier.proofs.VersionLaws.{all_listed}
use Rattle.earlier.proofs.earlier_table.statuses_up_to.Goals as goal

pub returns : goal.returns
unfolding statuses_up_to slot_at
returns c = let slots = c.args.table.slots in
    let eight : length slots ≡ 8 = search (rules, c.well_formed) in
    all_from_yields_List (λ (s : Slot). leb s.state.status c.args.last) _ _ c.all.result c.all.ensures.ran (YieldsList-from_slice slots cc) (λ s b q k. search (rules, tests))
    ∙ all_listed (λ (s : Slot). leb s.state.status c.args.last) no_slot slots 8 eight
