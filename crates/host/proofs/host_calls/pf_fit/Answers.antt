-- `host::host_calls::pf_fit`: the fit of the decoded table; a start has sixteen bits (FitTheorem.antt of queries).
use mathlib.Core.Path.{ap}
use native.Mathlib.Omega.{arith}
use Rattle.queries.specs.FitTheorem.{fit_start_few}
use Rattle.queries.specs.Queries.{FitAnswer}
use Rattle.host.proofs.host_calls.pf_fit.Goals as goal

pub overflow_cast-start : goal.overflow_cast-start
overflow_cast-start c = omega (arith, ap (λ (a : FitAnswer). a.location.0) c.in-Ok.ensures, fit_start_few c.decode_table.result c.args.size)
