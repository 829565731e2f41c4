-- `lend::lent::drain_alone`: a table of this slot alone is refused by its length, by its slot, or drained (AloneLaws.antt).
use mathlib.Core.Path.{◌∙◌, sym, refl}
use Rattle.std.proofs.Common.{rules}
use Rattle.common.specs.RefusalLaws.{number_some}
use Rattle.lend.specs.AloneLaws.{not_new, not_alone, new_table_law, by_answer}
use Rattle.table.specs.RecountingLaws.{recount_accepted, recount_refused}
use Rattle.lend.proofs.lent.drain_alone.Goals as goal

pub returns-in_default : goal.returns-in_default
returns-in_default c = let a = c.args in
    not_new a.slot a.memory.now a.buffer.now (λ e. number_some c.in_default.field-0.refusal (c.in_default.ensures.refusal_value ∙ e))

pub returns-in_default-recount : goal.returns-in_default-recount
returns-in_default-recount c = let a = c.args in
    let empty = c.in-Ok.ensures.table_value ∙ new_table_law _ (sym c.in-Ok.ensures.refusal_value) in
    let why = recount_refused _ c.in_default-recount.ensures (number_some c.in_default-recount.field-0.refusal) in
    not_alone a.slot a.memory.now a.buffer.now c.in-Ok.empty empty (rw (← c.with_slot.ensures) why.0) refl

pub returns : goal.returns
returns c = let a = c.args in
    let empty = c.in-Ok.ensures.table_value ∙ new_table_law _ (sym c.in-Ok.ensures.refusal_value) in
    let alone = recount_accepted _ c.in-Ok-recount.ensures refl in
    by_answer a.slot a.memory.now a.buffer.now c.in-Ok.empty c.in-Ok-recount.alone empty (rw c.with_slot.ensures at alone.1) c.drain.result _ _ c.drain.ensures.memory_value c.drain.ensures.count_value c.drain.ensures.buffer_after c.map_err.ensures.cases (λ r q p. search rules)
