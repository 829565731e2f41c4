-- Definitions that must be believed: what a host's upgrade of a table that an earlier version kept answers and leaves (`upgrade_of` of crate
-- earlier). UpgradeTheorem.antt proves `Upgraded` of every accepted upgrade.
use Rattle.std.specs.Prelude.{true, not, List, [], ◌∷◌, ◌≢◌, ◌≡◌, ℕ, eqb, length}
use Rattle.common.specs.Refusals.{◌gives◌, unless}
use Rattle.earlier.specs.EarlierTable.{held_table, upgrade_of}
use Rattle.encoding.specs.TableEncoding.{table_length, table_bytes, table_from_bytes}
use Rattle.host.specs.HostCalls.{BufferOutcome, buffer_outcome, answer_of}
use Rattle.system.specs.System.{machine_in}
use Rattle.table.specs.Sound.{table_sound}
use Rattle.table.specs.Table.{slot_at}

-- what a call answers, and what the new table's buffer holds afterwards: the refusal by the old bytes comes first, then 16 if the buffer has
-- not today's length. A refusal leaves the buffer
unfoldable pub host_upgrade : List ℕ → List ℕ → BufferOutcome
host_upgrade old table =
    unless (λ n. buffer_outcome (answer_of n 0) table)
    (not (eqb (upgrade_of old).refusal 0) gives (upgrade_of old).refusal ∷ not (eqb (length table) table_length) gives 16 ∷ [])
    (buffer_outcome (answer_of 0 0) (table_bytes (upgrade_of old).table))

-- what new bytes are after an accepted upgrade of old ones
pub record Upgraded (old new : List ℕ) : Type 0 where
  -- they hold a sound table
  pub sound : (length new ≡ table_length) × (table_sound (table_from_bytes new) ≡ true)
  -- of a memory of the same length, with the same slots
  pub size : (table_from_bytes new).size ≡ (held_table old).size
  pub slots : (table_from_bytes new).slots ≡ (held_table old).slots
  -- so each slot's machine is the same, whatever the memory
  pub machines : (k : ℕ) (memory : List ℕ) → machine_in (slot_at (table_from_bytes new) k) memory ≡ machine_in (slot_at (held_table old) k) memory
  -- and nothing is locked in a table of an earlier version
  pub unlocked : length old ≢ table_length → (k : ℕ) → (slot_at (table_from_bytes new) k).partition.layout.locked ≡ 0
