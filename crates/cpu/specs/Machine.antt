-- Definitions that must be believed: document 01's lone 2650, and its step.
use Rattle.std.specs.Prelude.{ℕ, ◌+◌, List, length, take, drop, ◌==◌, nat_le, nat_lt, slice_index, slice_set}
use Rattle.common.specs.Choice.{when◌then◌else◌}
use Rattle.common.specs.Layout.{layout_size}
use Rattle.cpu.specs.Instruction.{instruction_step}
use Rattle.steps.specs.Result.{Effect, Nothing, Put, StepResult, Store, Take}
use Rattle.cpu.specs.Port.{Ports}
use Rattle.registers.specs.State.{with_cpu, with_read, with_status, with_written}
use Rattle.common.specs.declared.layout.Layout.{Layout}
use Rattle.common.specs.declared.places.Address.{Address}
use Rattle.registers.specs.declared.state.State.{State}

-- it knows no memory and no neighbour: address a is the window's byte a. The first bytes of the window are locked, as many as `locked`
-- says (document 02, U6)
pub record Machine : Type 0 where
  pub state : State
  pub locked : ℕ
  pub window : List ℕ
  pub input : List ℕ
  pub output : List ℕ

-- the machine that a state and a partition's bytes hold: the window, the input and the output, one after the other
abbrev pub machine_of : Layout → State → List ℕ → Machine
machine_of layout state bytes =
    record {
      state = state;
      locked = layout.locked;
      window = take layout.window bytes;
      input = take layout.input (drop layout.window bytes);
      output = take layout.output (drop (layout.window + layout.input) bytes);
    }

-- the same bytes, and the same of them locked, with another state
abbrev pub with_state : State → Machine → Machine
with_state z m = record { state = z; locked = m.locked; window = m.window; input = m.input; output = m.output }

-- what a slice that is longer than its partition holds behind it
abbrev pub beyond : Layout → List ℕ → List ℕ
beyond layout bytes = drop (layout_size layout) bytes

-- with read at filled nothing is unread; with written at the capacity the output is full
abbrev pub ports_of : Machine → Ports
ports_of m =
    record {
      unread = nat_lt m.state.read m.state.filled;
      byte = slice_index m.input m.state.read;
      full = nat_le (length m.output) m.state.written;
    }

-- Cpu and status after a step
abbrev pub with_cpu_and_status : StepResult → Machine → Machine
with_cpu_and_status s m = with_state (with_status s.status (with_cpu s.cpu m.state)) m

-- the three effects: a byte stored in the window, the input byte taken, a byte put out
abbrev pub with_byte_stored : Address → ℕ → Machine → Machine
with_byte_stored a v m = record { state = m.state; locked = m.locked; window = slice_set m.window a.0 v; input = m.input; output = m.output }

abbrev pub with_input_taken : Machine → Machine
with_input_taken m = with_state (with_read (m.state.read + 1) m.state) m

abbrev pub with_output_put : ℕ → Machine → Machine
with_output_put v m = record { state = with_written (m.state.written + 1) m.state; locked = m.locked; window = m.window; input = m.input; output = slice_set m.output m.state.written v }

-- the step's effect
unfoldable pub with_effect : Effect → Machine → Machine
with_effect Nothing m = m
with_effect (Store a v) m = with_byte_stored a v m
with_effect Take m = with_input_taken m
with_effect (Put v) m = with_output_put v m

-- the machine after a step that came to that result
abbrev pub after_step : StepResult → Machine → Machine
after_step s m = with_effect s.effect (with_cpu_and_status s m)

-- a step at a status other than 1 changes nothing; else it is one instruction
unfoldable pub machine_step : Machine → Machine
machine_step m = when m.state.status == 1 then after_step (instruction_step m.state.cpu m.window m.locked (ports_of m)) m else m
