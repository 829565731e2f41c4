-- Definitions that must be believed: what refuses a call with a table before its own conditions, in the order of document 01's "Turned back,
-- by place". Queries.antt of queries puts the lists together, and Calls.antt of supervisor.
use Rattle.std.specs.Prelude.{ℕ, ltb, not, List, [], ◌∷◌}
use Rattle.common.specs.Refusals.{Condition, ◌gives◌}
use Rattle.table.specs.Sound.{table_sound}
use Rattle.table.specs.Table.{is_empty, slot_at}
use Rattle.table.specs.declared.table.Table.{Table}

-- every call with a table
unfoldable pub table_conditions : Table → List Condition
table_conditions t = not (table_sound t) gives 1 ∷ []

-- a call at a slot that is to be empty
unfoldable pub empty_slot_conditions : Table → ℕ → List Condition
empty_slot_conditions t k = ltb 7 k gives 3 ∷ not (is_empty (slot_at t k)) gives 4 ∷ []

-- a call at a slot that is to hold a pattern
unfoldable pub loaded_slot_conditions : Table → ℕ → List Condition
loaded_slot_conditions t k = ltb 7 k gives 3 ∷ is_empty (slot_at t k) gives 5 ∷ []
