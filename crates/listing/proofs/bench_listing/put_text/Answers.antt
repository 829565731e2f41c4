use native.Mathlib.Omega.{arith}
use mathlib.Core.Path.{refl}
use Rattle.common.specs.ConditionDefinitions.{condition_definitions}
use Rattle.common.specs.RefusalLaws.{number_some}
use Rattle.table.specs.Table.{new_refusal}
use Rattle.listing.proofs.BenchRunLaws.{long_text, refused_load, end_sound, end_loaded, after_bench_rounds_text}
use Rattle.listing.proofs.bench_listing.put_text.Goals as goal

pub returns-then-file-gt-MAX_FILE : goal.returns-then-file-gt-MAX_FILE
returns-then-file-gt-MAX_FILE c = let put = c.put_refused.ensures in
    let text = long_text c.args.file.now c.args.memory.now _ _ _ c.if-file-gt-MAX_FILE.true (put.value, put.text_after) in
    record { value = text.0; memory_after = text.1.0; text_after = text.1.1; upper_bound = omega (arith, put.upper_bound) }

pub unreachable-requires : goal.unreachable-requires
unfolding new_refusal condition_definitions
unreachable-requires c = number_some c.in_default.field-0.refusal c.in_default.ensures.refusal_value

pub returns-in-Err : goal.returns-in-Err
returns-in-Err c = let put = c.put_refused-in-Err.ensures in
    let text = refused_load _ _ c.if-file-gt-MAX_FILE.false _ _ _ _ c.in-Ok.ensures.table_value c.in-Err.ensures _ _ _ (number_some c.in-Err.refused.refusal) (put.value, put.text_after) in
    record { value = text.0; memory_after = text.1.0; text_after = text.1.1; upper_bound = omega (arith, put.upper_bound) }

pub put_report_and_output-requires : goal.put_report_and_output-requires
put_report_and_output-requires c = record {
  sound_system = end_sound _ _ c.if-file-gt-MAX_FILE.false _ _ _ _ c.in-Ok.ensures.table_value c.in-Ok-load.ensures refl c.requires.memory_len _ _ c.run_until_stopped-end.ensures;
  memory_value = end_loaded _ _ c.if-file-gt-MAX_FILE.false _ _ _ _ c.in-Ok.ensures.table_value c.in-Ok-load.ensures refl c.requires.memory_len _ _ c.run_until_stopped-end.ensures;
  longest_text_in_bounds = c.requires.longest_text_in_bounds;
}

pub returns : goal.returns
returns c = let put = c.put_report_and_output.ensures in
    let text = after_bench_rounds_text _ _ c.if-file-gt-MAX_FILE.false _ _ _ _ c.in-Ok.ensures.table_value c.in-Ok-load.ensures refl c.requires.memory_len _ _ c.run_until_stopped-end.ensures _ _ _ (put.value, put.text_after) in
    record { value = text.0; memory_after = text.1.0; text_after = text.1.1; upper_bound = omega (arith, put.upper_bound) }
