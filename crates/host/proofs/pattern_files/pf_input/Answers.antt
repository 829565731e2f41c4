-- `host::pattern_files::pf_input`: the body's place and length, if the file is accepted.
use lib.ListN.{length}
use mathlib.Core.Path.{sym, ap, ◌∙◌}
use native.Mathlib.Omega.{arith}
use Rattle.host.specs.PatternFiles.{stretch_of}
use Rattle.host.specs.PatternFileLaws.{input_accepted, input_few, input_offset_few, input_refused}
use Rattle.host.proofs.pattern_files.pf_input.Goals as goal

pub stretch-requires : goal.stretch-requires
stretch-requires c = let accepted = sym c.in-Ok.ensures in
    (omega (arith, c.input_offset.ensures, input_offset_few c.args.file.now _ accepted), omega (arith, ap length c.input_body.ensures, input_few c.args.file.now _ accepted))

pub returns-in-Ok : goal.returns-in-Ok
returns-in-Ok c = c.stretch.ensures
    ∙ (λ j. stretch_of (c.input_offset.ensures j) (length (c.input_body.ensures j)))
    ∙ sym (input_accepted c.args.file.now _ (sym c.in-Ok.ensures))

pub returns-in-Err : goal.returns-in-Err
returns-in-Err c = sym (input_refused c.args.file.now _ (sym c.in-Err.ensures))
