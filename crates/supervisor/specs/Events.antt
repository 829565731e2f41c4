-- Definitions that must be believed: lists of calls on one table and one memory, and the rounds that they make
-- (document 01, "The lone 2650 of demand 3").
use Rattle.std.specs.Prelude.{◌+◌, ℕ, set, List, [], ◌∷◌}
use Rattle.common.specs.Choice.{when◌then◌else◌}
use Rattle.supervisor.specs.Calls.{Call, is_accepted, after_call, change, query, run}
use Rattle.system.specs.System.{System, system}

-- what happens to a table and its memory: a call, or one byte of the memory written from outside between two calls. A buffer that
-- lies in the memory and is lent to `drain` is written from outside after it, byte by byte
pub data Event : Type 0 where
  call : Call → Event
  write : (location byte : ℕ) → Event

-- table and memory after an event
unfoldable pub after_event : Event → System → System
after_event (call c) x = after_call c x
after_event (write i b) x = system x.table (set x.memory i b)

-- and after a list of them
unfoldable pub after_events : List Event → System → System
after_events [] x = x
after_events (e ∷ rest) x = after_events rest (after_event e x)

-- document 01's p: the rounds of the accepted runs
unfoldable pub rounds_of_call : Call → ℕ
rounds_of_call (change k c) = 0
rounds_of_call (run n) = n
rounds_of_call (query q) = 0

unfoldable pub rounds_of_event : Event → System → ℕ
rounds_of_event (call c) x = when is_accepted c x then rounds_of_call c else 0
rounds_of_event (write i b) x = 0

unfoldable pub rounds_of_events : List Event → System → ℕ
rounds_of_events [] x = 0
rounds_of_events (e ∷ rest) x = rounds_of_event e x + rounds_of_events rest (after_event e x)
