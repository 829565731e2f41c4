-- The three ways in which an upgrade ends.
use mathlib.Core.List.{List}
use mathlib.Core.Path.{◌≡◌}
use Prim.Native.Nat.{ℕ}
use borrow.Author.Tests.{eq-eqb, ne_eqb}
use lib.ListN.{length}
use Rattle.common.specs.ConditionDefinitions.{condition_definitions}
use Rattle.earlier.specs.EarlierTable.{upgrade_of}
use Rattle.encoding.specs.TableEncoding.{table_length, table_bytes}
use Rattle.host.specs.HostCalls.{buffer_outcome, answer_of}
use Rattle.host.specs.Upgrading.{host_upgrade}
use Rattle.table.specs.Table.{Answer}

module _ (old table : List ℕ) {r : Answer} (e : r ≡ upgrade_of old) where
  pub upgrade_refused : {a : ℕ} → (r.refusal ≡ 0 → ⊥) → a ≡ answer_of r.refusal 0 → buffer_outcome a table ≡ host_upgrade old table
  unfolding host_upgrade condition_definitions
  upgrade_refused some answers = rw (← e, ne_eqb r.refusal 0 some, answers)

  module _ (none : r.refusal ≡ 0) where
    pub upgrade_short : {a : ℕ} → (length table ≡ table_length → ⊥) → a ≡ answer_of 16 0 → buffer_outcome a table ≡ host_upgrade old table
    unfolding host_upgrade condition_definitions
    upgrade_short short answers = rw (← e, eq-eqb r.refusal 0 none, ne_eqb (length table) table_length short, answers)

    pub upgrade_made : {a : ℕ} {b : List ℕ} → length table ≡ table_length → a ≡ answer_of 0 0 → b ≡ table_bytes r.table → buffer_outcome a b ≡ host_upgrade old table
    unfolding host_upgrade condition_definitions
    upgrade_made whole answers put = rw (← e, eq-eqb r.refusal 0 none, eq-eqb (length table) table_length whole, answers, put)
