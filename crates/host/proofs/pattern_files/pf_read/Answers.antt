-- `host::pattern_files::pf_read`: by the reader's answer (HostFileLaws.antt).
use mathlib.Core.Path.{refl, ap, ◌∙◌}
use Rattle.slices.specs.Slices.{copied}
use Rattle.host.proofs.HostFileLaws.{read_refused, read_short, read_made}
use Rattle.host.proofs.pattern_files.pf_read.Goals as goal

pub returns-in-Err : goal.returns-in-Err
returns-in-Err c = read_refused c.args.file.now c.args.parameters.now _ c.in-Err.ensures _ _ refl c.answer.ensures

pub returns-then-parameters-lt-LENGTH : goal.returns-then-parameters-lt-LENGTH
returns-then-parameters-lt-LENGTH c = read_short c.args.file.now c.args.parameters.now _ c.in-Ok.ensures c.in-Ok.accepted refl _ c.if-parameters-lt-LENGTH.true c.answer-then-parameters-lt-LENGTH.ensures

pub returns : goal.returns
returns c = read_made c.args.file.now c.args.parameters.now _ c.in-Ok.ensures c.in-Ok.accepted refl _ _ c.if-parameters-lt-LENGTH.false c.answer-2.ensures (c.copy.ensures ∙ ap (copied c.args.parameters.now 0) c.encode_parameters.ensures)
