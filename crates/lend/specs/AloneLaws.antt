-- Laws that the checker has shown: a slot that is the only one of a table.
use Rattle.std.specs.Prelude.{Bool, ◌&&◌, List, ◌++◌, ◌≢◌, ◌≡◌, ℕ, eqb, leb, length, drop, Result, Ok, Err, IsErrAnd, MatchResult}
use Rattle.std.proofs.Math.Bool.{true, false}
use Rattle.std.proofs.Math.Path.{refl}
use Rattle.std.proofs.lemmas.Result.{err_from_is_err_and}
use Rattle.std.proofs.Common.{ne_eqb, sym, ap, ◌∙◌, arith, eq-eqb, eqb-true, le-leb}
use Rattle.common.specs.Choice.{when◌then◌else◌}
use Rattle.common.specs.TestLaws.{and_true, or_left, or_right}
use Rattle.common.specs.Ranges.{is_one_to}
use Rattle.common.specs.Tests.{and_all, all_below}
use Rattle.supervisor.proofs.ChangeLaws.{empty_sound}
use Rattle.system.specs.System.{Outcome, outcome, System, system, patched}
use Rattle.supervisor.specs.Calls.{change, drain, refusal, outcome_of, drained_count, drained_buffer}
use Rattle.table.specs.Table.{empty_slot, empty_table, new_refusal, new_table, partition_end, slot_at, with_slot, slot_with_state}
use Rattle.supervisor.specs.Draining.{count_in, drain_outcome, drained_state, drain_patch, written_bytes}
use Rattle.table.specs.FreeBytes.{counted}
use Rattle.table.specs.Sound.{slot_sound, are_apart, is_clear_of_others, slots_sound, table_sound}
use Rattle.table.specs.SoundLaws.{counted_test}
use Rattle.table.specs.declared.table.Partition.{Partition}
use Rattle.table.specs.declared.table.Slot.{Slot}
use Rattle.table.specs.declared.table.Table.{Table}
use Rattle.common.specs.RefusalLaws.{number_some}
use Rattle.common.specs.Refusals.{refusal_number}
use Rattle.common.specs.declared.refusals.Refusal.{Refusal}
use Rattle.supervisor.specs.declared.draining.Drained.{Drained}
use Rattle.table.specs.declared.table.RefusedCall.{RefusedCall}
use Rattle.lend.specs.Lent.{drained_alone_outcome, drain_lent_outcome, drain_slot_refusal, drain_slot_of}
use Rattle.supervisor.specs.CallDefinitions.{refusal_definitions, drain_definitions}
use Rattle.common.specs.ConditionDefinitions.{condition_definitions}

-- a table of seven empty slots behind this one, and the same with its free bytes counted
abbrev pub alone_slots : ℕ → Slot → Table
alone_slots size s = with_slot (empty_table size) 0 s

abbrev pub alone_table : ℕ → Slot → Table
alone_table size s = counted (alone_slots size s)

-- an empty partition meets none, on either side
empty_apart_left : (p : Partition) → are_apart empty_slot.partition p ≡ true
unfolding are_apart empty_slot
empty_apart_left p = or_left (leb 0 p.base.0) _ (le-leb 0 p.base.0 (omega arith))

empty_apart_right : (p : Partition) → are_apart p empty_slot.partition ≡ true
unfolding are_apart empty_slot
empty_apart_right p = or_right (leb (partition_end p) 0) _ (le-leb 0 p.base.0 (omega arith))

-- its slots are sound exactly if its size is in range and the slot is sound by itself
alone_slots_law : (size : ℕ) (s : Slot) → slots_sound (alone_slots size s) ≡ (is_one_to size 65536 && slot_sound size s)
unfolding slots_sound with_slot slot_at and_all all_below is_clear_of_others
alone_slots_law size s = simp (empty_sound size, empty_apart_left, empty_apart_right, and_true)

-- and so is the table
alone_sound : (size : ℕ) (s : Slot) → table_sound (alone_table size s) ≡ (is_one_to size 65536 && slot_sound size s)
alone_sound size s = counted_test (alone_slots size s) ∙ alone_slots_law size s

-- so draining there is refused as draining the slot is
pub alone_refusal : (s : Slot) (memory : List ℕ) (room : ℕ) → refusal (change 0 (drain room)) (system (alone_table (length memory) s) memory) ≡ drain_slot_refusal s (length memory) room
unfolding refusal_definitions drain_slot_refusal with_slot slot_at
alone_refusal s memory room = rw (alone_sound (length memory) s, eq-eqb (length memory) _ refl)

-- a memory whose length is out of range refuses the slot by 1
pub not_new : (s : Slot) (memory buffer : List ℕ) → new_refusal (length memory) ≢ 0 → drain_lent_outcome (record { refusal = 1; count = 0 }) s buffer ≡ drain_slot_of s memory buffer
unfolding condition_definitions new_refusal drain_slot_of drain_slot_refusal
not_new s memory buffer h = alone_by_test (is_one_to (length memory) 65536) refl
  where
    alone_by_test : (b : Bool) → is_one_to (length memory) 65536 ≡ b → drain_lent_outcome (record { refusal = 1; count = 0 }) s buffer ≡ drain_slot_of s memory buffer
    alone_by_test true e = absurd (h (rw e))
    alone_by_test false e = rw e

-- so does a slot that is not sound
pub not_alone : (s : Slot) (memory buffer : List ℕ) (t : Table) → t ≡ empty_table (length memory) → slots_sound (with_slot t 0 s) ≡ false → {n : ℕ} → n ≡ 1
    → drain_lent_outcome (record { refusal = n; count = 0 }) s buffer ≡ drain_slot_of s memory buffer
unfolding condition_definitions drain_slot_of drain_slot_refusal
not_alone s memory buffer t e h {n} one =
    let own : (is_one_to (length memory) 65536 && slot_sound (length memory) s) ≡ false =
    sym (alone_slots_law (length memory) s) ∙ sym (ap (λ (u : Table). slots_sound (with_slot u 0 s)) e) ∙ h
    in
    rw (own, one)

pub new_table_law : (n : ℕ) → new_refusal n ≡ 0 → new_table n ≡ empty_table n
unfolding new_table when◌then◌else◌
new_table_law n e = rw e

-- what draining at slot 0 answers and leaves is what draining the slot does
module _ (s : Slot) (memory buffer : List ℕ) where
  abbrev pub alone_system : System
  alone_system = system (alone_table (length memory) s) memory

  abbrev pub alone_outcome : Outcome
  alone_outcome = outcome_of (change 0 (drain (length buffer))) alone_system

  alone_by_test :
      (t : ℕ) (b : Bool) → eqb t 0 ≡ b
      → drain_lent_outcome
      (record { refusal = t; count = when b then s.state.written else 0 })
      (slot_at (when b then patched alone_system 0 (drain_patch (slot_at alone_system.table 0)) else alone_system).table 0)
      (when b then written_bytes (slot_at alone_system.table 0) alone_system.memory ++ drop s.state.written buffer else buffer)
      ≡ (when b
      then
      drain_lent_outcome
      (record { refusal = 0; count = s.state.written })
      (slot_with_state s (drained_state s.state))
      (written_bytes s memory ++ drop s.state.written buffer)
      else drain_lent_outcome (record { refusal = t; count = 0 }) s buffer)
  unfolding patched drain_patch with_slot slot_at when◌then◌else◌
  alone_by_test t true e = rw (eqb-true t 0 e)
  alone_by_test t false e = refl

  pub alone_drained :
      drain_lent_outcome
      (record { refusal = alone_outcome.refusal; count = drained_count alone_system 0 (length buffer) })
      (slot_at alone_outcome.after.table 0)
      (drained_buffer alone_system 0 buffer)
      ≡ drain_slot_of s memory buffer
  unfolding drain_definitions drain_slot_of
  alone_drained = rw (alone_refusal s memory (length buffer)) (alone_by_test (drain_slot_refusal s (length memory) (length buffer)) _ refl)

-- the same for whoever knows the answers of the call and the table it was made with
pub by_draining :
    (s : Slot) (memory buffer : List ℕ) (t u : Table) → t ≡ empty_table (length memory) → u ≡ counted (with_slot t 0 s)
    → (r n : ℕ) (t' : Table) (b : List ℕ)
    → outcome r t' memory ≡ outcome_of (change 0 (drain (length buffer))) (system u memory)
    → n ≡ drained_count (system u memory) 0 (length buffer)
    → b ≡ drained_buffer (system u memory) 0 buffer
    → drain_lent_outcome (record { refusal = r; count = n }) (slot_at t' 0) b ≡ drain_slot_of s memory buffer
by_draining s memory buffer t u e f r n t' b h i j =
    let alone : u ≡ alone_table (length memory) s = f ∙ ap (λ (v : Table). counted (with_slot v 0 s)) e in
    rw (ap (λ (o : Outcome). o.refusal) h, ap (λ (o : Outcome). o.after.table) h, i, j, alone) (alone_drained s memory buffer)

-- and for whoever knows that it was refused: then the slot is the given one
by_refusing :
    (s : Slot) (memory buffer : List ℕ) (t u : Table) → t ≡ empty_table (length memory) → u ≡ counted (with_slot t 0 s)
    → (r n : ℕ) (t' : Table) (b : List ℕ)
    → outcome r t' memory ≡ outcome_of (change 0 (drain (length buffer))) (system u memory)
    → n ≡ drained_count (system u memory) 0 (length buffer)
    → b ≡ drained_buffer (system u memory) 0 buffer
    → (r ≡ 0 → ⊥)
    → drain_lent_outcome (record { refusal = r; count = n }) s b ≡ drain_slot_of s memory buffer
unfolding drain_definitions with_slot slot_at when◌then◌else◌
by_refusing s memory buffer t u e f r n t' b h i j some =
    let why : refusal (change 0 (drain (length buffer))) (system u memory) ≡ r = sym (ap (λ (o : Outcome). o.refusal) h) in
    let kept : t' ≡ u = ap (λ (o : Outcome). o.after.table) h ∙ rw (why, ne_eqb r 0 some) in
    let same : slot_at t' 0 ≡ s = ap (λ (z : Table). slot_at z 0) kept ∙ rw (f, e) in
    ap (λ (z : Slot). drain_lent_outcome (record { refusal = r; count = n }) z b) (sym same) ∙ by_draining s memory buffer t u e f r n t' b h i j

-- so for whoever knows the answer of the call, and what the code makes of it by `map_err`
pub by_answer :
    (s : Slot) (memory buffer : List ℕ) (t u : Table) → t ≡ empty_table (length memory) → u ≡ counted (with_slot t 0 s)
    → (d : Result Drained RefusedCall) (mapped : Result Drained Refusal) (b : List ℕ) {P : RefusedCall → Refusal → Type 0}
    → drain_outcome d memory ≡ outcome_of (change 0 (drain (length buffer))) (system u memory)
    → count_in d ≡ drained_count (system u memory) 0 (length buffer)
    → b ≡ drained_buffer (system u memory) 0 buffer
    → MatchResult d (λ a. mapped ≡ Ok a) (λ r. IsErrAnd mapped (P r))
    → ((r : RefusedCall) (q : Refusal) → P r q → q ≡ r.refusal)
    → drained_alone_outcome mapped s b ≡ drain_slot_of s memory buffer
by_answer s memory buffer t u e f (Ok a) mapped b h i j m refused = rw m (by_draining s memory buffer t u e f 0 a.count a.table b h i j)
by_answer s memory buffer t u e f (Err r) mapped b h i j m refused =
    let (q, is, p) = err_from_is_err_and mapped m in
    rw (is, refused r q p) (by_refusing s memory buffer t u e f (refusal_number r.refusal) 0 r.table b h i j (number_some r.refusal))
