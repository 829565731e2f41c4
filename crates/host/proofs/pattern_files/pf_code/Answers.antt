-- `host::pattern_files::pf_code`: the body's place and length, if the file is accepted.
use lib.ListN.{length}
use mathlib.Core.Path.{sym, ap, ◌∙◌}
use native.Mathlib.Omega.{arith}
use Rattle.host.specs.PatternFiles.{stretch_of}
use Rattle.host.specs.PatternFileLaws.{code_accepted, code_few, code_offset_few, code_refused}
use Rattle.host.proofs.pattern_files.pf_code.Goals as goal

pub stretch-requires : goal.stretch-requires
stretch-requires c = let accepted = sym c.in-Ok.ensures in
    (omega (arith, c.code_offset.ensures, code_offset_few c.args.file.now _ accepted), omega (arith, ap length c.code_body.ensures, code_few c.args.file.now _ accepted))

pub returns-in-Ok : goal.returns-in-Ok
returns-in-Ok c = c.stretch.ensures
    ∙ (λ j. stretch_of (c.code_offset.ensures j) (length (c.code_body.ensures j)))
    ∙ sym (code_accepted c.args.file.now _ (sym c.in-Ok.ensures))

pub returns-in-Err : goal.returns-in-Err
returns-in-Err c = sym (code_refused c.args.file.now _ (sym c.in-Err.ensures))
