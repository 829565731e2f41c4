-- What theorems speak of: what a step of the lone machine keeps of it.
use Rattle.std.specs.Prelude.{◌≡◌, ℕ, ◌≤◌, length, take}
use Rattle.cpu.specs.Machine.{Machine, with_state}
use Rattle.registers.specs.State.{with_status, last_status}
use Rattle.cpu.specs.CpuInvariantLaws.{CpuSound}

-- a machine is changed into one that has its sizes, and as many locked bytes
pub record SameSizes (m n : Machine) : Type 0 where
  pub locked : n.locked ≡ m.locked
  pub window : length n.window ≡ length m.window
  pub input : length n.input ≡ length m.input
  pub output : length n.output ≡ length m.output

-- the bytes below the lock are as they were
abbrev pub SameLockedBytes : Machine → Machine → Type 0
SameLockedBytes m n = take m.locked n.window ≡ take m.locked m.window

-- the machine of a slot in a sound table: document 01's rules for counter, return addresses, PSU, positions and status
pub record MachineSound (m : Machine) : Type 0 where
  pub cpu : CpuSound m.state.cpu
  pub filled : m.state.filled ≤ length m.input
  pub read : m.state.read ≤ m.state.filled
  pub written : m.state.written ≤ length m.output
  pub least : 1 ≤ m.state.status
  pub most : m.state.status ≤ last_status
  pub wants_input : m.state.status ≡ 3 → m.state.read ≡ m.state.filled
  pub full : m.state.status ≡ 4 → m.state.written ≡ length m.output

-- the same machine at another status
abbrev pub at_status : ℕ → Machine → Machine
at_status n m = with_state (with_status n m.state) m
