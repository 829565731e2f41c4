use Prim.Native.Nat.{ℕ}
use mathlib.Core.Path.{◌≡◌}
use native.Mathlib.Omega.{arith}
use lib.ListN.{length-replicate}
use Rattle.system.specs.System.{System, system, slot_of}
use Rattle.supervisor.specs.Draining.{written_bytes}
use Rattle.listing.proofs.BenchRunLaws.{report_not_refused, drain_not_refused, status_digit, output_drained, output_fits, lines_after_law}
use Rattle.listing.proofs.bench_listing.put_report_and_output.Goals as goal

pub unreachable-requires : goal.unreachable-requires
unreachable-requires c = report_not_refused (system c.args.table c.args.memory.now) c.requires.sound_system c.requires.memory_value c.in_default.field-0 c.in_default.ensures

pub unreachable-requires-in_default-drain : goal.unreachable-requires-in_default-drain
unreachable-requires-in_default-drain c = drain_not_refused (system c.args.table c.args.memory.now) c.requires.sound_system c.requires.memory_value c.in_default-drain.field-0.refusal c.in_default-drain.field-0.table _ (omega (arith, length-replicate {A = ℕ} 4096 0)) c.in_default-drain.ensures.memory_value

pub put_lines-requires : goal.put_lines-requires
put_lines-requires c = let x : System = system c.args.table c.args.memory.now in
    let drained : c.front.result.now ≡ written_bytes (slot_of x 0) x.memory = output_drained x c.requires.sound_system c.requires.memory_value _ _ _ _ (length-replicate {A = ℕ} 4096 0) c.in-Ok-drain.ensures.count_value c.in-Ok-drain.ensures.buffer_after c.front.ensures in
    record { status_bound = status_digit x c.requires.sound_system c.requires.memory_value _ c.in-Ok.ensures; output_in_bounds = omega (arith, output_fits x c.requires.sound_system c.requires.memory_value _ drained, c.requires.longest_text_in_bounds) }

pub returns : goal.returns
returns c = let x : System = system c.args.table c.args.memory.now in
    let drained : c.front.result.now ≡ written_bytes (slot_of x 0) x.memory = output_drained x c.requires.sound_system c.requires.memory_value _ _ _ _ (length-replicate {A = ℕ} 4096 0) c.in-Ok-drain.ensures.count_value c.in-Ok-drain.ensures.buffer_after c.front.ensures in
    let put = c.put_lines.ensures in
    let lines = lines_after_law x c.requires.sound_system c.requires.memory_value _ _ _ _ _ c.in-Ok.ensures drained (put.value, put.text_after) in
    record { value = lines.0; text_after = lines.1; upper_bound = omega (arith, put.value_2, output_fits x c.requires.sound_system c.requires.memory_value _ drained) }
