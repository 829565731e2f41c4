-- Definitions that must be believed: what is kept of a machine beside its bytes, and its parts set one at a time
-- (document 01, "The lone 2650 of demand 3").
use Rattle.std.specs.Prelude.{ℕ}
use Rattle.registers.specs.declared.cpu.Cpu.{Cpu}
use Rattle.registers.specs.declared.state.State.{State}
use Rattle.registers.specs.declared.state.Status.{Status}
use Rattle.registers.specs.declared.state.Status.TheVariants.{Empty, Running, Halted, WantsInput, OutputFull, Unknown, Outside, Port, Locked}

-- the number of each status (document 01, "Status of a station"; document 02, U6)
abbrev pub status_number : Status → ℕ
status_number Empty = 0
status_number Running = 1
status_number Halted = 2
status_number WantsInput = 3
status_number OutputFull = 4
status_number Unknown = 5
status_number Outside = 6
status_number Port = 7
status_number Locked = 8

-- the last of document 01's statuses, and of document 02's
abbrev pub last_status : ℕ
last_status = 8

-- the state of an empty slot: status 0, and nothing in the buffers
abbrev pub empty_state : Cpu → State
empty_state cpu = record { cpu = cpu; status = 0; filled = 0; read = 0; written = 0 }

-- the parts of a state, anew
abbrev pub with_cpu : Cpu → State → State
with_cpu c s = record { cpu = c; status = s.status; filled = s.filled; read = s.read; written = s.written }

abbrev pub with_status : ℕ → State → State
with_status n s = record { cpu = s.cpu; status = n; filled = s.filled; read = s.read; written = s.written }

abbrev pub with_read : ℕ → State → State
with_read n s = record { cpu = s.cpu; status = s.status; filled = s.filled; read = n; written = s.written }

abbrev pub with_written : ℕ → State → State
with_written n s = record { cpu = s.cpu; status = s.status; filled = s.filled; read = s.read; written = n }

abbrev pub with_filled : ℕ → State → State
with_filled n s = record { cpu = s.cpu; status = s.status; filled = n; read = s.read; written = s.written }
