-- Definitions that must be believed: the events of crate supervisor on a table's bytes and one memory, and demand 3 as a statement about
-- what a host then holds (document 01, "The lone 2650 of demand 3"). What a call leaves is `host_after_call`, of which the entry points' contracts
-- are equations.
use Rattle.std.specs.Prelude.{false, List, [], ◌∷◌, ◌≡◌, ℕ, ◌*◌, ◌<◌, length, set}
use Rattle.common.specs.Repetition.{times}
use Rattle.cpu.specs.Machine.{machine_step}
use Rattle.supervisor.specs.Calls.{change, run, query}
use Rattle.supervisor.specs.Events.{Event, call, write, after_events, rounds_of_events}
use Rattle.supervisor.specs.Isolation.{LeftAloneThroughout, Isolation}
use Rattle.supervisor.specs.LockKept.{LockKept}
use Rattle.system.specs.System.{slot_of, machine_in}
use Rattle.table.specs.Table.{is_empty}
use Rattle.host.specs.HostCalls.{HostBuffers, host_buffers, system_of, host_after_call}
use Rattle.encoding.specs.TableEncoding.{table_length}

-- what a host holds after a call of an entry point that takes the table, or after one byte of the memory is written between two calls. A
-- query is given the table to read, and no memory. A new table begins another list
unfoldable pub host_after_event : Event → HostBuffers → HostBuffers
host_after_event (call (change k c)) h = host_after_call (change k c) h
host_after_event (call (run n)) h = host_after_call (run n) h
host_after_event (call (query q)) h = h
host_after_event (write i b) h = host_buffers h.table (set h.memory i b)

-- and after a list of such events
unfoldable pub host_after_events : List Event → HostBuffers → HostBuffers
host_after_events [] h = h
host_after_events (e ∷ rest) h = host_after_events rest (host_after_event e h)

-- Demand 3, of what a host holds and any list of what it does
pub record HostIsolation (h : HostBuffers) (list : List Event) : Type 0 where
  -- after the list, the host's bytes hold the table and the memory that the events lead to
  pub holds : system_of (host_after_events list h) ≡ after_events list (system_of h)
  -- the table still has its length
  pub whole : length (host_after_events list h).table ≡ table_length
  -- and demand 3 holds of these events, all of it
  pub isolation : Isolation (system_of h) list
  -- its first part, in the host's bytes: a pattern that is left alone is exactly the lone machine after p times s steps
  pub machine :
      (k : ℕ) → k < 8 → is_empty (slot_of (system_of h) k) ≡ false → LeftAloneThroughout k list (system_of h)
      → machine_in (slot_of (system_of (host_after_events list h)) k) (host_after_events list h).memory
      ≡ times (rounds_of_events list (system_of h) * (slot_of (system_of h) k).partition.quantum) machine_step (machine_in (slot_of (system_of h) k) h.memory)
  -- and document 02's locked front: such a pattern has left the bytes below its lock as they were (U6)
  pub locked : LockKept (system_of h) list
