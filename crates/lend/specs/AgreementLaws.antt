-- Laws that the checker has shown: for a slot of a sound table, with its memory, draining over the lent slot gives and leaves what
-- draining there does. So it stays out of the list of calls of demand 3, and nothing is lost.
use Rattle.std.specs.Prelude.{Bool, ◌&&◌, ◌≡◌, refl, ℕ, ◌<◌, eqb, length}
use Rattle.std.proofs.Math.Bool.{true, false}
use mathlib.Core.List.{List}
use Rattle.std.proofs.Common.{sym, ◌∙◌, arith}
use Rattle.std.proofs.Math.Path.{ap}
use borrow.Author.Tests.{eq-eqb, eqb-true, le-ltb}
use Rattle.std.proofs.lemmas.List.{set-get_or}
use Rattle.common.specs.TestLaws.{and_test, one_to_test}
use Rattle.common.specs.Ranges.{is_one_to}
use Rattle.slices.specs.SliceLaws.{copied_none}
use Rattle.supervisor.specs.Calls.{change, drain, refusal, outcome_of, drained_count, drained_buffer}
use Rattle.system.specs.System.{outcome, System, system}
use Rattle.table.specs.SoundLaws.{table_fact}
use Rattle.table.specs.Table.{slot_at, with_slot}
use Rattle.table.specs.Sound.{slot_sound, table_sound}
use Rattle.table.specs.declared.table.Slot.{Slot}
use Rattle.table.specs.declared.table.Table.{Table}
use Rattle.lend.specs.Lent.{DrainSlotOutcome, drain_slot_refusal, drain_slot_of}
use Rattle.supervisor.specs.CallDefinitions.{refusal_definitions, drain_definitions}

-- an outcome over slot k of a table, its slot put back, is what a call of `drain` at k answers and leaves: the three equations of its
-- contract
pub record AsDrained (t : Table) (memory : List ℕ) (k : ℕ) (buffer : List ℕ) (o : DrainSlotOutcome) : Type 0 where
  pub table : outcome o.answer.drained.refusal (with_slot t k o.answer.slot) memory ≡ outcome_of (change k (drain (length buffer))) (system t memory)
  pub count : o.answer.drained.count ≡ drained_count (system t memory) k (length buffer)
  pub bytes : o.buffer ≡ drained_buffer (system t memory) k buffer

module _ (t : Table) (memory : List ℕ) (k : ℕ) (buffer : List ℕ) where
  abbrev table_slot : Slot
  table_slot = slot_at t k

  abbrev table_system : System
  table_system = system t memory

  -- both are refused alike
  same_refusal : table_sound t ≡ true → length memory ≡ t.size → k < 8 → refusal (change k (drain (length buffer))) table_system ≡ drain_slot_refusal table_slot (length memory) (length buffer)
  unfolding refusal_definitions drain_slot_refusal
  same_refusal h e q =
      let f = table_fact t h in
      let own : (is_one_to (length memory) 65536 && slot_sound (length memory) table_slot) ≡ true =
      ap (λ (n : ℕ). is_one_to n 65536 && slot_sound n table_slot) e ∙ and_test _ _ (one_to_test t.size 65536 f.slots.size) (f.slots.each k q) in
      rw (h, eq-eqb _ _ e, le-ltb 7 k (omega arith), own)

  -- at one number, both outcomes
  agrees_by_test : (n : ℕ) (b : Bool) → refusal (change k (drain (length buffer))) table_system ≡ n → drain_slot_refusal table_slot (length memory) (length buffer) ≡ n → eqb n 0 ≡ b → AsDrained t memory k buffer (drain_slot_of table_slot memory buffer)
  unfolding drain_definitions drain_slot_of
  agrees_by_test n true d l z = record { table = rw (d, l, z, eqb-true n 0 z, copied_none); count = rw (d, l, z); bytes = rw (d, l, z) }
  agrees_by_test n false d l z =
      record {
        table = rw (d, l, z) (ap (λ (r : List Slot). outcome n (record { size = t.size; free = t.free; widest = t.widest; slots = r }) memory) (set-get_or t.slots k _));
        count = rw (d, l, z);
        bytes = rw (d, l, z);
      }

  pub drain_agrees : table_sound t ≡ true → length memory ≡ t.size → k < 8 → AsDrained t memory k buffer (drain_slot_of (slot_at t k) memory buffer)
  drain_agrees h e q = agrees_by_test (refusal (change k (drain (length buffer))) table_system) _ refl (sym (same_refusal h e q)) refl
