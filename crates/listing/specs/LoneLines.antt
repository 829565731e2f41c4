-- What theorems speak of: the two lines of the lone machine.
use Rattle.std.specs.Prelude.{List, ℕ, zero, suc, eqb, take}
use Rattle.common.specs.Choice.{when◌then◌else◌}
use Rattle.common.specs.Repetition.{times}
use Rattle.cpu.specs.Machine.{Machine, machine_step}
use Rattle.queries.specs.Reporting.{reported_psu}
use Rattle.queries.specs.Queries.{ReportAnswer}
use Rattle.listing.specs.Text.{lines_of}

-- quanta of q steps until the status is not 1 or n are made
unfoldable pub lone_until : ℕ → ℕ → Machine → Machine
lone_until zero q m = m
lone_until (suc n) q m = when eqb m.state.status 1 then lone_until n q (times q machine_step m) else m

unfoldable pub lone_report : Machine → ReportAnswer
lone_report m =
    record {
      refusal = 0;
      status = m.state.status;
      counter = m.state.cpu.counter;
      registers = m.state.cpu.registers;
      psu = reported_psu m.state;
      psl = m.state.cpu.psl;
    }

unfoldable pub lone_lines : Machine → List ℕ
lone_lines m = lines_of (lone_report m) (take m.state.written m.output)
