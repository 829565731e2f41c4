-- `earlier::earlier_table::upgrade_table`: by the length, and then by that version's rules (EarlierTableLaws.antt, VersionLaws.antt).
use borrow.Author.Tests.{eq-eqb, ne_eqb}
use lib.ListN.{length}
use native.Mathlib.Omega.{arith}
use Rattle.encoding.specs.TableEncoding.{table_length}
use Rattle.std.proofs.Common.{rules, ◌≢◌}
use mathlib.Core.Path.{◌∙◌, ap, sym, refl}
use Rattle.earlier.proofs.VersionLaws.{held_refused, held_recounted, held_judged}
use Rattle.earlier.specs.EarlierTableLaws.{uncounted_held, uncounted_sound, unlocked_held, unlocked_sound, today_held, today_sound}
use Rattle.earlier.specs.EarlierTable.{uncounted_table_length, unlocked_table_length, last_unlocked_status, statuses_up_to}
use Rattle.earlier.proofs.earlier_table.upgrade_table.Goals as goal

pub returns-then-not-statuses_up_to : goal.returns-then-not-statuses_up_to
returns-then-not-statuses_up_to c = let held = c.decode_uncounted-table.ensures ∙ uncounted_held _ c.in-364.is in
    held_refused _ _ held _ _ (uncounted_sound _ c.in-364.is) (sym (c.statuses_up_to.ensures ∙ ap (statuses_up_to last_unlocked_status) held) ∙ c.if-not-statuses_up_to.true)

pub returns-else-not-statuses_up_to : goal.returns-else-not-statuses_up_to
returns-else-not-statuses_up_to c = let held = c.decode_uncounted-table.ensures ∙ uncounted_held _ c.in-364.is in
    c.recount.ensures
    ∙ held_recounted _ _ held _ (uncounted_sound _ c.in-364.is) (sym (c.statuses_up_to.ensures ∙ ap (statuses_up_to last_unlocked_status) held) ∙ c.if-not-statuses_up_to.false)

pub returns-then-not-statuses_up_to-2 : goal.returns-then-not-statuses_up_to-2
returns-then-not-statuses_up_to-2 c = let counted : length c.args.old.now ≢ uncounted_table_length = λ e. omega (arith, c.in-372.is) in
    let held = c.decode_unlocked-table.ensures ∙ unlocked_held _ counted c.in-372.is in
    held_refused _ _ held _ _ (unlocked_sound _ counted c.in-372.is) (sym (c.statuses_up_to-in-372.ensures ∙ ap (statuses_up_to last_unlocked_status) held) ∙ c.if-not-statuses_up_to-2.true)

pub returns-else-not-statuses_up_to-2 : goal.returns-else-not-statuses_up_to-2
returns-else-not-statuses_up_to-2 c = let counted : length c.args.old.now ≢ uncounted_table_length = λ e. omega (arith, c.in-372.is) in
    let held = c.decode_unlocked-table.ensures ∙ unlocked_held _ counted c.in-372.is in
    c.judged.ensures
    ∙ held_judged _ _ held _ (unlocked_sound _ counted c.in-372.is) (sym (c.statuses_up_to-in-372.ensures ∙ ap (statuses_up_to last_unlocked_status) held) ∙ c.if-not-statuses_up_to-2.false) refl

pub returns-in-388 : goal.returns-in-388
returns-in-388 c = let counted : length c.args.old.now ≢ uncounted_table_length = λ e. omega (arith, c.in-388.is) in
    let locked : length c.args.old.now ≢ unlocked_table_length = λ e. omega (arith, c.in-388.is) in
    let held = c.decode_table.ensures ∙ today_held _ counted locked in
    c.judged-in-388.ensures ∙ held_judged _ _ held _ (today_sound _ counted locked) (eq-eqb _ _ c.in-388.is) refl

pub returns-in_default : goal.returns-in_default
returns-in_default c = let counted : length c.args.old.now ≢ uncounted_table_length = search rules in
    let locked : length c.args.old.now ≢ unlocked_table_length = search rules in
    let other : length c.args.old.now ≢ table_length = search rules in
    let held = c.decode_table-in_default.ensures ∙ today_held _ counted locked in
    held_refused _ _ held _ _ (today_sound _ counted locked) (ne_eqb _ _ other)
