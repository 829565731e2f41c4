-- Definitions that must be believed: what refuses a call with a table and its memory before its own conditions, in the order of document 01's
-- "Turned back, by place". Calls.antt puts the lists together.
use Rattle.std.specs.Prelude.{eqb, length, not, List, [], ◌++◌, ◌∷◌}
use Rattle.common.specs.Refusals.{Condition, ◌gives◌}
use Rattle.table.specs.TableConditions.{table_conditions}
use Rattle.system.specs.System.{System}

-- every call with a table and its memory
unfoldable pub system_conditions : System → List Condition
system_conditions x = table_conditions x.table ++ (not (eqb (length x.memory) x.table.size) gives 2 ∷ [])
