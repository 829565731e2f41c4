-- Definitions that must be believed: what refuses a feed, and what an accepted one does (document 01, "Floor and bays": feed).
use Rattle.std.specs.Prelude.{ℕ, eqb, ltb, length, ◌||◌, List, [], ◌∷◌}
use Rattle.common.specs.Refusals.{Condition, ◌gives◌}
use Rattle.registers.specs.State.{with_filled, with_read, with_status}
use Rattle.supervisor.specs.Location.{input_location}
use Rattle.supervisor.specs.Resuming.{resumed_status}
use Rattle.system.specs.System.{Patch, patch}
use Rattle.table.specs.Table.{slot_with_state}
use Rattle.registers.specs.declared.state.State.{State}
use Rattle.table.specs.declared.table.Slot.{Slot}

-- unread input remains; no bytes, or more than the capacity
unfoldable pub feed_conditions : Slot → List ℕ → List Condition
feed_conditions s bytes =
    ltb s.state.read s.state.filled gives 14 ∷ (eqb (length bytes) 0 || ltb s.partition.layout.input (length bytes)) gives 15 ∷ []

-- n bytes unread; status 3 becomes 1, others are left
unfoldable pub fed_state : ℕ → State → State
fed_state n s = with_status (resumed_status 3 s.status) (with_read 0 (with_filled n s))

-- the bytes to the front of the input, the rest left
unfoldable pub feed_patch : List ℕ → Slot → Patch
feed_patch bytes s = patch (slot_with_state s (fed_state (length bytes) s.state)) (input_location s.partition) bytes
