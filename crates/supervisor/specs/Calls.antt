-- Definitions that must be believed: what is called, what refuses it, and what it leaves. A call is a change at one slot, a run, or a
-- query; a change is one patch of that slot, with the free bytes counted where its partition changes, and a query changes nothing.
use Rattle.std.specs.Prelude.{Bool, List, ◌++◌, ℕ, eqb, length, drop}
use Rattle.common.specs.Choice.{when◌then◌else◌}
use Rattle.common.specs.Refusals.{Condition, refusal_by}
use Rattle.common.specs.declared.places.Location.{Location}
use Rattle.pattern.specs.Reader.{parameters_of}
use Rattle.system.specs.System.{System, system, slot_of, Patch, patched, Outcome}
use Rattle.table.specs.TableConditions.{empty_slot_conditions, loaded_slot_conditions}
use Rattle.system.specs.Conditions.{system_conditions}
use Rattle.supervisor.specs.Loading.{file_conditions, location_conditions, partition_for, load_patch}
use Rattle.supervisor.specs.Feeding.{feed_conditions, feed_patch}
use Rattle.supervisor.specs.Draining.{drain_conditions, drain_patch, written_bytes}
use Rattle.supervisor.specs.Unloading.{unload_patch}
use Rattle.system.specs.Running.{after_run}
use Rattle.table.specs.FreeBytes.{counted}
use Rattle.queries.specs.Queries.{Query, query_conditions}
use Rattle.table.specs.declared.table.Slot.{Slot}
use Rattle.table.specs.declared.table.Table.{Table}

-- what is done to one slot; `drain` is given the length of its buffer
pub data Change : Type 0 where
  load : (location : Location) (file : List ℕ) → Change
  unload : Change
  feed : (bytes : List ℕ) → Change
  drain : (room : ℕ) → Change

-- a call that takes the table
pub data Call : Type 0 where
  change : (slot : ℕ) → Change → Call
  run : (rounds : ℕ) → Call
  query : Query → Call

-- ---- what refuses a call: the table's conditions, the slot's, its own

unfoldable pub change_conditions : Change → System → ℕ → List Condition
change_conditions (load location file) x k =
    system_conditions x ++ empty_slot_conditions x.table k ++ (file_conditions file ++ location_conditions x.table k (partition_for location (parameters_of file)))
change_conditions unload x k = system_conditions x ++ loaded_slot_conditions x.table k
change_conditions (feed bytes) x k = system_conditions x ++ loaded_slot_conditions x.table k ++ feed_conditions (slot_of x k) bytes
change_conditions (drain room) x k = system_conditions x ++ loaded_slot_conditions x.table k ++ drain_conditions (slot_of x k) room

-- the number that refuses a call, 0 if it is accepted
unfoldable pub refusal : Call → System → ℕ
refusal (change k c) x = refusal_by (change_conditions c x k)
refusal (run n) x = refusal_by (system_conditions x)
refusal (query q) x = refusal_by (query_conditions q x.table)

-- nothing refuses the call
abbrev pub is_accepted : Call → System → Bool
is_accepted c x = eqb (refusal c x) 0

-- ---- what a call leaves

-- an accepted change at a slot, as a patch of it
unfoldable pub patch_of : Change → Slot → Patch
patch_of (load location file) s = load_patch location file
patch_of unload s = unload_patch s
patch_of (feed bytes) s = feed_patch bytes s
patch_of (drain room) s = drain_patch s

-- the table after a change's patch: a load and an unload count its free bytes; a feed and a drain leave both numbers (document 02, U5)
unfoldable pub counted_after : Change → Table → Table
counted_after (load location file) t = counted t
counted_after unload t = counted t
counted_after (feed bytes) t = t
counted_after (drain room) t = t

-- the patch of an accepted change, carried out
abbrev pub patched_by : ℕ → Change → System → System
patched_by k c x = patched x k (patch_of c (slot_of x k))

-- table and memory after an accepted change
abbrev pub after_change : ℕ → Change → System → System
after_change k c x = system (counted_after c (patched_by k c x).table) (patched_by k c x).memory

-- and after any accepted call
unfoldable pub after_accepted : Call → System → System
after_accepted (change k c) x = after_change k c x
after_accepted (run n) x = after_run n x
after_accepted (query q) x = x

-- and after any call: a refused one leaves everything
unfoldable pub after_call : Call → System → System
after_call c x = when is_accepted c x then after_accepted c x else x

-- what a call answers and leaves, as one value: every contract of an operation is an equation of this
unfoldable pub outcome_of : Call → System → Outcome
outcome_of c x = record { refusal = refusal c x; after = after_call c x }

-- ---- what a drain hands over

-- how many bytes are drained, and the buffer afterwards; a refusal drains none and leaves it
unfoldable pub drained_count : System → ℕ → ℕ → ℕ
drained_count x k room = when is_accepted (change k (drain room)) x then (slot_of x k).state.written else 0

unfoldable pub drained_buffer : System → ℕ → List ℕ → List ℕ
drained_buffer x k buffer =
    when is_accepted (change k (drain (length buffer))) x
    then written_bytes (slot_of x k) x.memory ++ drop (slot_of x k).state.written buffer
    else buffer
