-- Definitions that must be believed: what refuses a drain, and what an accepted one does (document 01, "Floor and bays": collect).
use Rattle.std.specs.Prelude.{ℕ, ltb, List, [], ◌∷◌, Result, Ok, Err}
use Rattle.common.specs.Refusals.{Condition, ◌gives◌, refusal_number}
use Rattle.registers.specs.State.{with_status, with_written}
use Rattle.slices.specs.Slices.{part_of}
use Rattle.supervisor.specs.Location.{output_location}
use Rattle.supervisor.specs.Resuming.{resumed_status}
use Rattle.supervisor.specs.declared.draining.Drained.{Drained}
use Rattle.system.specs.System.{Outcome, Patch, outcome, patch}
use Rattle.table.specs.Table.{slot_with_state}
use Rattle.registers.specs.declared.state.State.{State}
use Rattle.table.specs.declared.table.RefusedCall.{RefusedCall}
use Rattle.table.specs.declared.table.Slot.{Slot}

-- the buffer is too short for what was written
unfoldable pub drain_conditions : Slot → ℕ → List Condition
drain_conditions s room = ltb room s.state.written gives 16 ∷ []

-- written becomes 0; status 4 becomes 1, others are left
unfoldable pub drained_state : State → State
drained_state s = with_status (resumed_status 4 s.status) (with_written 0 s)

-- the memory's bytes are left
unfoldable pub drain_patch : Slot → Patch
drain_patch s = patch (slot_with_state s (drained_state s.state)) s.partition.base []

-- the written bytes, which go to the front of the lent buffer
unfoldable pub written_bytes : Slot → List ℕ → List ℕ
written_bytes s memory = part_of memory (output_location s.partition).0 s.state.written

-- ---- a drain's answer of the code

-- how many bytes it says were drained: none, if the drain was refused
abbrev pub count_in : Result Drained RefusedCall → ℕ
count_in (Ok d) = d.count
count_in (Err r) = 0

-- its refusal and its table, with the memory that the drain leaves
abbrev pub drain_outcome : Result Drained RefusedCall → List ℕ → Outcome
drain_outcome (Ok d) memory = outcome 0 d.table memory
drain_outcome (Err r) memory = outcome (refusal_number r.refusal) r.table memory
