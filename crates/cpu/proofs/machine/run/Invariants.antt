use Rattle.std.proofs.Common.{◌≡◌, drop}
use Rattle.registers.specs.PackedCpu.{cpu_of}
use Rattle.cpu.specs.Machine.{machine_step}
use Rattle.common.specs.Repetition.{times}
use Rattle.cpu.specs.Partition.{PositionsFit, machine_by_bounds}
use Rattle.cpu.proofs.machine.run.Given as goal

-- so far the machine has made as many steps as the loop, and what lies behind the partition is as it was
abbrev pub invariant-loop : goal.invariant-loop
invariant-loop l =
    record {
      stepped : machine_by_bounds l.state l.bounds (cpu_of l.cpu) l.status l.positions l.partition
          ≡ times l.counter machine_step (machine_by_bounds l.state l.bounds (cpu_of l.initial.cpu) l.initial.status l.initial.positions l.initial.partition);
      fit : PositionsFit l.positions;
      beyond : drop l.bounds.end l.partition ≡ drop l.bounds.end l.initial.partition;
    }
