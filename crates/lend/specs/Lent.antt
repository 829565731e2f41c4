-- Definitions that must be believed: draining over one slot that is lent with its memory and a buffer (document 01, "Floor and bays":
-- collecting over one station's record).
use Rattle.std.specs.Prelude.{not, ◌&&◌, List, [], ◌∷◌, ◌++◌, ℕ, eqb, length, drop, Result, Ok, Err}
use Rattle.common.specs.Choice.{when◌then◌else◌}
use Rattle.common.specs.Refusals.{◌gives◌, refusal_by, refusal_number}
use Rattle.common.specs.Ranges.{is_one_to}
use Rattle.supervisor.specs.Draining.{drain_conditions, drained_state, written_bytes}
use Rattle.table.specs.Table.{slot_at, slot_with_state, is_empty}
use Rattle.table.specs.Sound.{slot_sound}
use Rattle.table.specs.declared.table.Slot.{Slot}
use Rattle.lend.specs.declared.lent.SlotAnswer.{SlotAnswer}
use Rattle.supervisor.specs.declared.draining.Drained.{Drained}
use Rattle.common.specs.declared.refusals.Refusal.{Refusal}

-- what refuses it: 1 if the memory's length is out of range or the slot is not sound, its partition measured against that memory. That
-- partitions are disjoint, and the numbers of the free bytes, are rules of a table, which the call does not see. Then 5; then what refuses a
-- draining
unfoldable pub drain_slot_refusal : Slot → ℕ → ℕ → ℕ
drain_slot_refusal s size room = refusal_by ((not (is_one_to size 65536 && slot_sound size s) gives 1 ∷ is_empty s gives 5 ∷ []) ++ drain_conditions s room)

-- what it answers: the refusal, 0 for none, and how many bytes were drained
pub record LentAnswer : Type 0 where
  pub refusal : ℕ
  pub count : ℕ

-- and so the code's: a refused one drained none
abbrev pub lent_answer_in : Result ℕ Refusal → LentAnswer
lent_answer_in (Ok count) = record { refusal = 0; count = count }
lent_answer_in (Err refusal) = record { refusal = refusal_number refusal; count = 0 }

-- the same, and the slot
pub record DrainedSlot : Type 0 where
  pub drained : LentAnswer
  pub slot : Slot

-- what it gives and leaves, as one value: the answer with the slot, and the buffer
pub record DrainSlotOutcome : Type 0 where
  pub answer : DrainedSlot
  pub buffer : List ℕ

-- such an outcome, made of its parts: as it is where the slot stands behind a reference
abbrev pub drain_lent_outcome : LentAnswer → Slot → List ℕ → DrainSlotOutcome
drain_lent_outcome d s buffer = record { answer = record { drained = d; slot = s }; buffer = buffer }

-- and of what the code answers where the slot is passed by value
abbrev pub drain_slot_outcome : SlotAnswer → List ℕ → DrainSlotOutcome
drain_slot_outcome a buffer = drain_lent_outcome (lent_answer_in a.drained) a.slot buffer

-- and of a draining of the slot as the only one of a table
abbrev pub drained_alone_outcome : Result Drained Refusal → Slot → List ℕ → DrainSlotOutcome
drained_alone_outcome (Ok d) s buffer = drain_lent_outcome (record { refusal = 0; count = d.count }) (slot_at d.table 0) buffer
drained_alone_outcome (Err refusal) s buffer = drain_lent_outcome (record { refusal = refusal_number refusal; count = 0 }) s buffer

-- a refusal leaves everything; else it does what draining does
unfoldable pub drain_slot_of : Slot → List ℕ → List ℕ → DrainSlotOutcome
drain_slot_of s memory buffer =
    when eqb (drain_slot_refusal s (length memory) (length buffer)) 0
    then
    drain_lent_outcome
    (record { refusal = 0; count = s.state.written })
    (slot_with_state s (drained_state s.state))
    (written_bytes s memory ++ drop s.state.written buffer)
    else drain_lent_outcome (record { refusal = drain_slot_refusal s (length memory) (length buffer); count = 0 }) s buffer
