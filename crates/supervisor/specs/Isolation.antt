-- Definitions that must be believed: document 01's demand 3, as one statement about a list of events
-- (document 01, "The lone 2650 of demand 3"). IsolationTheorem.antt proves it.
use Rattle.std.specs.Prelude.{◌*◌, ◌<◌, ℕ, get_or, false, true, List, [], ◌∷◌, ◌≢◌, ◌≡◌}
use Rattle.common.specs.Repetition.{times}
use Rattle.cpu.specs.Machine.{machine_step}
use Rattle.supervisor.specs.Calls.{change, query, refusal, run}
use Rattle.supervisor.specs.Events.{Event, after_event, after_events, call, rounds_of_events, write}
use Rattle.table.specs.Sound.{table_sound}
use Rattle.system.specs.System.{System, machine_in, slot_of}
use Rattle.table.specs.Table.{InNoPartition, is_empty, is_in_partition}

-- slot k is left alone: no change is accepted at it, and its partition is not written from outside
unfoldable pub LeftAlone : ℕ → Event → System → Type 0
LeftAlone k (call (change j c)) x = j ≡ k → refusal (change j c) x ≢ 0
LeftAlone k (call (run n)) x = Unit {0}
LeftAlone k (call (query q)) x = Unit {0}
LeftAlone k (write i b) x = is_in_partition (slot_of x k) i ≡ false

-- and so it is at each event of a list
unfoldable pub LeftAloneThroughout : ℕ → List Event → System → Type 0
LeftAloneThroughout k [] x = Unit {0}
LeftAloneThroughout k (e ∷ rest) x = LeftAlone k e x × LeftAloneThroughout k rest (after_event e x)

-- an event that does not write byte i from outside
unfoldable pub NotWritten : ℕ → Event → Type 0
NotWritten i (call c) = Unit {0}
NotWritten i (write j b) = j ≢ i

-- byte i is in no partition before the list and after each event, and no event writes it from outside
unfoldable pub InNoPartitionNorWrittenThroughout : ℕ → List Event → System → Type 0
InNoPartitionNorWrittenThroughout i [] x = InNoPartition i x.table
InNoPartitionNorWrittenThroughout i (e ∷ rest) x = InNoPartition i x.table × NotWritten i e × InNoPartitionNorWrittenThroughout i rest (after_event e x)

-- the table is sound before the list and after each event
unfoldable pub SoundThroughout : List Event → System → Type 0
SoundThroughout [] x = table_sound x.table ≡ true
SoundThroughout (e ∷ rest) x = (table_sound x.table ≡ true) × SoundThroughout rest (after_event e x)

-- a run is never refused: before each event of the list, one of any count would be accepted
unfoldable pub RunsAccepted : List Event → System → Type 0
RunsAccepted [] x = Unit {0}
RunsAccepted (e ∷ rest) x = (((count : ℕ) → refusal (run count) x ≡ 0)) × RunsAccepted rest (after_event e x)

-- Document 01's demand 3, of a table and its memory and any list of events on them
pub record Isolation (x : System) (events : List Event) : Type 0 where
  -- a pattern that is left alone is, after the list, exactly the lone machine after p times s steps: registers, status, window, both
  -- buffers, filled, read and written
  pub machine :
      (k : ℕ) → k < 8 → is_empty (slot_of x k) ≡ false → LeftAloneThroughout k events x
      → machine_in (slot_of (after_events events x) k) (after_events events x).memory
      ≡ times (rounds_of_events events x * (slot_of x k).partition.quantum) machine_step (machine_in (slot_of x k) x.memory)
  -- its partition stays: base, layout and quantum
  pub partition :
      (k : ℕ) → k < 8 → is_empty (slot_of x k) ≡ false → LeftAloneThroughout k events x → (slot_of (after_events events x) k).partition ≡ (slot_of x k).partition
  -- a byte that is in no partition all through, and that no event writes from outside, is as it was
  pub byte : (i : ℕ) → InNoPartitionNorWrittenThroughout i events x → get_or (after_events events x).memory i 0 ≡ get_or x.memory i 0
  -- every table handed back is sound
  pub tables : SoundThroughout events x
  -- a run is never refused
  pub runs : RunsAccepted events x
