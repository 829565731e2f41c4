-- `loader::fresh::put_fresh_bytes`: a refused file and one without room leave the memory (FreshPartLaws.antt).
use mathlib.Core.Path.{◌∙◌, ap, sym}
use native.Mathlib.Omega.{arith}
use Rattle.pattern.specs.Reader.{read_result}
use Rattle.pattern.specs.ReaderLaws.{code_fits, input_fits}
use Rattle.loader.proofs.FreshPartLaws.{put_refused, put_left, put_whole}
use Rattle.loader.proofs.fresh.put_fresh_bytes.Goals as goal

pub returns-in_default : goal.returns-in_default
returns-in_default c = let start = c.args in
    put_refused start.file.now start.memory.now start.location.0 c.read.ensures c.in_default.is

pub returns-then-memory-end : goal.returns-then-memory-end
returns-then-memory-end c = let start = c.args in
    put_left start.file.now start.memory.now start.location.0 c.read.ensures c.in-Ok.is (omega (arith, c.if-memory-end.true, c.size.ensures))

pub put_parts-requires-clause-code_len_bound : goal.put_parts-requires-clause-code_len_bound
put_parts-requires-clause-code_len_bound c = rw c.code_body.ensures (code_fits c.args.file.now _ (sym c.read.ensures ∙ ap read_result c.in-Ok.is))

pub put_parts-requires-clause-input_len_bound : goal.put_parts-requires-clause-input_len_bound
put_parts-requires-clause-input_len_bound c = rw c.input_body.ensures (input_fits c.args.file.now _ (sym c.read.ensures ∙ ap read_result c.in-Ok.is))

pub returns : goal.returns
returns c = let start = c.args in
    put_whole start.file.now start.memory.now start.location.0 c.read.ensures c.in-Ok.is _ _ c.size.ensures (omega (arith, c.if-memory-end.false))
    (c.put_parts.ensures ∙ rw (c.code_body.ensures, c.input_body.ensures))
