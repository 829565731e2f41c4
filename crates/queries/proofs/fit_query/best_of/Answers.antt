-- `queries::fit_query::best_of`: a fold over the list (ExtentListLaws.antt).
use Rattle.common.specs.Choice.{when◌then◌else◌}
use Rattle.table.specs.Extents.{empty_extent}
use mathlib.Core.Path.{◌∙◌}
use Rattle.std.proofs.Common.{rules, tests, fold, ap, ◌≡◌}
use Rattle.std.proofs.lemmas.Iterator.{YieldsList-from_slice}
use Rattle.std.proofs.lemmas.Iterator.Consumers.{fold_from_yields_List}
use Rattle.queries.specs.FitQuery.{fits_better}
use Rattle.queries.proofs.ExtentListLaws.{best_fold}
use Rattle.queries.proofs.fit_query.best_of.Goals as goal

pub returns : goal.returns
unfolding when◌then◌else◌
returns c = let a = c.args in
    let start : c.default.result ≡ empty_extent = search rules in
    fold_from_yields_List _ (λ b e. when fits_better a.size e b then e else b) c.default.result c.fold.result c.fold.ensures.ran (YieldsList-from_slice a.extents.now cc) (λ b e n q k. search (rules, tests))
    ∙ ap (λ b. fold (λ b e. when fits_better a.size e b then e else b) b a.extents.now) start
    ∙ best_fold a.size empty_extent a.extents.now
