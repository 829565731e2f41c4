-- Definitions that must be believed: document 02's locked front, as one statement about a list of events (U6). LockTheorem.antt proves it.
use Rattle.std.specs.Prelude.{◌+◌, ◌<◌, ℕ, get_or, false, List, ◌≡◌}
use Rattle.supervisor.specs.Events.{Event, after_events}
use Rattle.supervisor.specs.Isolation.{LeftAloneThroughout}
use Rattle.system.specs.System.{System, slot_of}
use Rattle.table.specs.Table.{is_empty}

-- Of a table and its memory and any list of events on them that leaves a pattern alone
pub record LockKept (x : System) (events : List Event) : Type 0 where
  -- each byte of its window below the lock is as it was, whatever the pattern did
  pub bytes :
      (k : ℕ) → k < 8 → is_empty (slot_of x k) ≡ false → LeftAloneThroughout k events x
      → (i : ℕ) → i < (slot_of x k).partition.layout.locked
      → get_or (after_events events x).memory ((slot_of x k).partition.base.0 + i) 0 ≡ get_or x.memory ((slot_of x k).partition.base.0 + i) 0
  -- if nothing is locked, it does not come to status 8
  pub unlocked :
      (k : ℕ) → k < 8 → is_empty (slot_of x k) ≡ false → LeftAloneThroughout k events x
      → (slot_of x k).partition.layout.locked ≡ 0
      → (slot_of (after_events events x) k).state.status ≡ 8 → (slot_of x k).state.status ≡ 8
