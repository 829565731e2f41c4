-- `host::pattern_files::pf_write`: by the writer's answer (HostFileLaws.antt).
use native.Mathlib.Omega.{arith}
use lib.ListN.{length}
use mathlib.Core.Path.{sym}
use Rattle.host.specs.PatternFileLaws.{file_few}
use Rattle.host.proofs.pattern_files.pf_write.Goals as goal

pub overflow_cast-n : goal.overflow_cast-n
overflow_cast-n c = omega (arith, file_few c.decode_parameters.result c.args.image.now c.args.input.now (length c.args.buffer.now) c.in-Ok.n (sym c.in-Ok.ensures.0))
