-- `queries::fit_query::fit`: the four answers of a fit (FitTheorem.antt).
use Prim.Native.Nat.{ℕ}
use Rattle.std.proofs.Common.{rules, Err}
use Rattle.common.specs.RefusalLaws.{number_some}
use mathlib.Core.Path.{refl, ◌≡◌, sym, ap, ◌∙◌}
use native.Mathlib.Omega.{arith}
use Rattle.queries.specs.Queries.{FitAnswer, fit_answer}
use Rattle.table.specs.TableConditionLaws.{table_accepted, table_refused}
use Rattle.table.specs.Extents.{empty_extent, extent_size}
use Rattle.queries.specs.FitQuery.{best_of, best_fit}
use Rattle.table.specs.SoundLaws.{slots_test, table_fact}
use Rattle.queries.specs.FitTheorem.{fit_unsound, fit_other_size, fit_none, fit_best, fit_start_few}
use Rattle.table.specs.declared.extents.Extent.{Extent}
use Rattle.queries.proofs.fit_query.fit.Goals as goal

pub returns-in_err-check_table : goal.returns-in_err-check_table
returns-in_err-check_table c = let a = c.args in
    let refusal = c.in_err-check_table.field-0.0 in
    let why = table_refused a.table c.in_err-check_table.ensures (number_some refusal) in
    let answer : c.from_residual.result ≡ Err refusal = search rules in
    rw answer (ap (λ (n : ℕ). fit_answer n 0) why.0 ∙ sym (fit_unsound a.table a.size why.1))

pub returns-then-not-is_size_in_range : goal.returns-then-not-is_size_in_range
returns-then-not-is_size_in_range c = let a = c.args in
    let sound = table_accepted a.table (c.in_ok-check_table.ensures) refl in
    sym (fit_other_size a.table a.size sound (sym c.is_size_in_range.ensures ∙ c.if-not-is_size_in_range.true))

pub free_extents-requires : goal.free_extents-requires
free_extents-requires c = slots_test c.args.table (table_fact c.args.table (table_accepted c.args.table (c.in_ok-check_table.ensures) refl)).slots

pub returns-then-extent_size-size : goal.returns-then-extent_size-size
unfolding best_fit
returns-then-extent_size-size c = let a = c.args in
    let sound = table_accepted a.table (c.in_ok-check_table.ensures) refl in
    let best : c.best_of-best.result ≡ best_fit a.table a.size = c.best_of-best.ensures ∙ ap (best_of a.size empty_extent) (c.deref.ensures.0 ∙ c.free_extents.ensures) in
    sym (fit_none a.table a.size sound (sym c.is_size_in_range.ensures ∙ c.if-not-is_size_in_range.false) (omega (arith, c.extent_size.ensures, ap extent_size best, c.if-extent_size-size.true)))

pub overflow_cast-result : goal.overflow_cast-result
unfolding best_fit
overflow_cast-result c = let a = c.args in
    let sound = table_accepted a.table (c.in_ok-check_table.ensures) refl in
    let best : c.best_of-best.result ≡ best_fit a.table a.size = c.best_of-best.ensures ∙ ap (best_of a.size empty_extent) (c.deref.ensures.0 ∙ c.free_extents.ensures) in
    let answer = fit_best a.table a.size sound (sym c.is_size_in_range.ensures ∙ c.if-not-is_size_in_range.false) (omega (arith, c.extent_size.ensures, ap extent_size best, c.if-extent_size-size.false)) in
    omega (arith, ap (λ (e : Extent). e.start) best, ap (λ (r : FitAnswer). r.location.0) answer, fit_start_few a.table a.size)

pub returns : goal.returns
unfolding best_fit
returns c = let a = c.args in
    let sound = table_accepted a.table (c.in_ok-check_table.ensures) refl in
    let best : c.best_of-best.result ≡ best_fit a.table a.size = c.best_of-best.ensures ∙ ap (best_of a.size empty_extent) (c.deref.ensures.0 ∙ c.free_extents.ensures) in
    ap (λ (e : Extent). fit_answer 0 e.start) best
    ∙ sym (fit_best a.table a.size sound (sym c.is_size_in_range.ensures ∙ c.if-not-is_size_in_range.false) (omega (arith, c.extent_size.ensures, ap extent_size best, c.if-extent_size-size.false)))
