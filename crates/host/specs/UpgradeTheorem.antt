-- Laws that the checker has shown: what an accepted upgrade leaves, and that a table of today's form is copied.
use Rattle.std.specs.Prelude.{Bool, not, List, [], ◌∷◌, ◌≢◌, ◌≡◌, eqb, length, ℕ}
use Rattle.std.proofs.Math.Bool.{true, false}
use Rattle.std.proofs.Math.Path.{refl, ap}
use Rattle.std.proofs.Common.{sym, ◌∙◌, arith}
use Rattle.common.specs.ConditionDefinitions.{condition_definitions}
use Rattle.common.specs.Refusals.{◌gives◌, unless}
use Rattle.common.specs.TestLaws.{and_fact}
use Rattle.earlier.specs.EarlierTable.{unlocked_table_length, uncounted_table_length, held_table, held_table_sound}
use Rattle.earlier.specs.EarlierTableLaws.{held_shaped, held_slots, held_unlocked, held_upgrade, unheld_upgrade, today_held, today_sound}
use Rattle.encoding.specs.TableEncoding.{table_length, table_bytes, table_from_bytes}
use Rattle.encoding.specs.TableRoundTripLaws.{TableShaped, counted_shaped, table_length_law, table_decoded, table_encoded}
use Rattle.host.specs.HostCalls.{BufferOutcome, buffer_outcome, answer_of}
use Rattle.host.specs.Upgrading.{host_upgrade, Upgraded}
use Rattle.slices.specs.Slices.{AllBytes}
use Rattle.system.specs.System.{machine_in}
use Rattle.table.specs.FreeBytes.{counted}
use Rattle.table.specs.Table.{answer}
use Rattle.table.specs.Sound.{table_sound}
use Rattle.table.specs.SoundLaws.{table_fact, counted_same, counted_test}
use Rattle.table.specs.Table.{slot_at}
use Rattle.table.specs.Table.{Answer}
use Rattle.table.specs.declared.table.Table.{Table}

-- ---- an accepted upgrade

-- its bytes hold the counted table
module _ (old : List ℕ) (sound : held_table_sound old ≡ true) where
  shaped : TableShaped (counted (held_table old))
  shaped = counted_shaped (held_table old) (held_shaped old)

  again : table_from_bytes (table_bytes (counted (held_table old))) ≡ counted (held_table old)
  again = table_decoded (counted (held_table old)) shaped

  upgraded_bytes : Upgraded old (table_bytes (counted (held_table old)))
  unfolding slot_at
  upgraded_bytes =
      record {
        sound = (table_length_law _ shaped, ap table_sound again ∙ counted_test (held_table old) ∙ held_slots old sound);
        size = ap (λ (t : Table). t.size) again;
        slots = ap (λ (t : Table). t.slots) again;
        machines = λ k memory. ap (λ (t : Table). machine_in (slot_at t k) memory) again;
        unlocked = λ other k. ap (λ (t : Table). (slot_at t k).partition.layout.locked) again ∙ held_unlocked old sound other k;
      }

-- ---- what a call leaves

module _ (old table : List ℕ) where
  -- the outcome, by the answer for the old bytes and by whether the new buffer is whole
  upgrade_outcome_by : Answer → Bool → BufferOutcome
  upgrade_outcome_by a whole =
      unless (λ n. buffer_outcome (answer_of n 0) table) (not (eqb a.refusal 0) gives a.refusal ∷ not whole gives 16 ∷ []) (buffer_outcome (answer_of 0 0) (table_bytes a.table))

  accepted_bytes : (host_upgrade old table).answer ≡ answer_of 0 0 → (held_table_sound old ≡ true) × ((host_upgrade old table).buffer ≡ table_bytes (counted (held_table old)))
  unfolding host_upgrade upgrade_outcome_by condition_definitions
  accepted_bytes e = go (held_table_sound old) refl
    where
      whole : (t : Table) (c : Bool) → (upgrade_outcome_by (answer 0 t) c).answer ≡ answer_of 0 0 → (upgrade_outcome_by (answer 0 t) c).buffer ≡ table_bytes t
      whole t true q = refl
      whole t false q = absurd (omega arith)

      go : (b : Bool) → held_table_sound old ≡ b → (held_table_sound old ≡ true) × ((host_upgrade old table).buffer ≡ table_bytes (counted (held_table old)))
      go true h =
          let u : host_upgrade old table ≡ upgrade_outcome_by (answer 0 (counted (held_table old))) (eqb (length table) table_length) = ap (λ (a : Answer). upgrade_outcome_by a (eqb (length table) table_length)) (held_upgrade old h) in
          (h, ap (λ (o : BufferOutcome). o.buffer) u ∙ whole (counted (held_table old)) (eqb (length table) table_length) (sym (ap (λ (o : BufferOutcome). o.answer) u) ∙ e))
      go false h =
          let u : host_upgrade old table ≡ upgrade_outcome_by (answer 1 (held_table old)) (eqb (length table) table_length) = ap (λ (a : Answer). upgrade_outcome_by a (eqb (length table) table_length)) (unheld_upgrade old h) in
          absurd (omega (arith, ap (λ (o : BufferOutcome). o.answer) u, e))

  module _ (accepted : (host_upgrade old table).answer ≡ answer_of 0 0) where
    -- What an accepted upgrade leaves.
    pub upgraded : Upgraded old (host_upgrade old table).buffer
    upgraded = let (sound, bytes) = accepted_bytes accepted in rw bytes (upgraded_bytes old sound)

    -- today's form is copied, byte for byte
    pub today_copied : length old ≡ table_length → AllBytes old → (host_upgrade old table).buffer ≡ old
    today_copied whole small =
        let (sound, bytes) = accepted_bytes accepted in
        let counts : length old ≢ uncounted_table_length = λ e. omega arith in
        let locks : length old ≢ unlocked_table_length = λ e. omega arith in
        let held : table_from_bytes old ≡ held_table old = today_held old counts locks in
        let today : table_sound (table_from_bytes old) ≡ true = ap table_sound held ∙ (and_fact (eqb (length old) table_length) (table_sound (held_table old)) (sym (today_sound old counts locks) ∙ sound)).1 in
        bytes
        ∙ ap (λ (t : Table). table_bytes (counted t)) (sym held)
        ∙ ap table_bytes (counted_same (table_from_bytes old) (table_fact (table_from_bytes old) today))
        ∙ table_encoded old whole small
