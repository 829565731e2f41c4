-- Definitions that must be believed: what a host's call to run one machine answers and leaves.
use Rattle.std.specs.Prelude.{List, ℕ, eqb, length}
use Rattle.common.specs.Choice.{when◌then◌else◌}
use Rattle.cpu.specs.Machine.{Machine, beyond, machine_of, machine_step}
use Rattle.common.specs.Repetition.{times}
use Rattle.common.specs.declared.layout.Layout.{Layout}
use Rattle.encoding.specs.StateEncoding.{state_from_bytes, state_length}

-- how the partition is divided, and how much of the window is locked
abbrev pub layout_of : ℕ → ℕ → ℕ → ℕ → Layout
layout_of window input output locked = record { window = window; input = input; output = output; locked = locked }

-- what a call leaves in the two lent slices: a machine that ran, and the bytes behind its partition;
-- or, refused by a number, the slices as they are
pub data MachineOutcome : Type 0 where
  Ran : Machine → List ℕ → MachineOutcome
  RunRefused : ℕ → List ℕ → List ℕ → MachineOutcome

-- the machine whose state the first slice holds, in its partition
abbrev pub lent_machine : Layout → List ℕ → List ℕ → Machine
lent_machine layout state partition = machine_of layout (state_from_bytes state) partition

-- by the answer: 0 is a machine that ran, any other a refusal
unfoldable pub machine_outcome : ℕ → Layout → List ℕ → List ℕ → MachineOutcome
machine_outcome answer layout state partition =
    when eqb answer 0 then Ran (lent_machine layout state partition) (beyond layout partition) else RunRefused answer state partition

-- so many steps of the machine; a state of another length is refused by 1
unfoldable pub machine_outcome_of : Layout → List ℕ → List ℕ → ℕ → MachineOutcome
machine_outcome_of layout state partition steps =
    when eqb (length state) state_length
    then Ran (times steps machine_step (lent_machine layout state partition)) (beyond layout partition)
    else RunRefused 1 state partition
