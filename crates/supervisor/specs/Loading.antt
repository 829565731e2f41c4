-- Definitions that must be believed: what refuses a load, and what an accepted one does (document 01, "Floor and bays": mount).
use Rattle.std.specs.Prelude.{ℕ, eqb, ltb, not, List, [], ◌∷◌}
use Rattle.common.specs.Refusals.{Condition, ◌gives◌}
use Rattle.loader.specs.Fresh.{file_state, fresh_bytes}
use Rattle.pattern.specs.Reader.{parameters_of, read_of, read_refusal}
use Rattle.table.specs.Sound.{is_clear_of_others}
use Rattle.system.specs.System.{Patch, patch}
use Rattle.table.specs.Table.{partition_end}
use Rattle.common.specs.declared.places.Location.{Location}
use Rattle.pattern.specs.declared.parameters.Parameters.{Parameters}
use Rattle.table.specs.declared.table.Partition.{Partition}
use Rattle.table.specs.declared.table.Table.{Table}

-- the partition of a pattern with those parameters, loaded at that location
unfoldable pub partition_for : Location → Parameters → Partition
partition_for location parameters = record { base = location; layout = parameters.layout; quantum = parameters.quantum }

-- the reader's refusal
unfoldable pub file_conditions : List ℕ → List Condition
file_conditions file = not (eqb (read_refusal (read_of file)) 0) gives read_refusal (read_of file) ∷ []

-- the partition ends past the memory, or meets another one
unfoldable pub location_conditions : Table → ℕ → Partition → List Condition
location_conditions t k p = ltb t.size (partition_end p) gives 12 ∷ not (is_clear_of_others t k p) gives 13 ∷ []

-- a fresh machine, its first input unread, and the whole partition, unused bytes zero
unfoldable pub load_patch : Location → List ℕ → Patch
load_patch location file =
    patch (record { partition = partition_for location (parameters_of file); state = file_state file }) location (fresh_bytes file)
