-- What theorems speak of: what an accepted load says.
use Rattle.std.specs.Prelude.{List, ◌≢◌, ◌≡◌, ℕ, ◌≤◌, ◌<◌}
use Rattle.common.specs.declared.places.Location.{Location}
use Rattle.pattern.specs.Reader.{read_of, parameters_of}
use Rattle.pattern.specs.Reader.{Accepted}
use Rattle.system.specs.System.{System, slot_of}
use Rattle.system.specs.ConditionLaws.{SoundSystem}
use Rattle.supervisor.specs.Loading.{partition_for}
use Rattle.table.specs.Table.{partition_end}
use Rattle.table.specs.SoundLaws.{Apart}

pub record LoadAccepted (x : System) (k : ℕ) (location : Location) (file : List ℕ) : Type 0 where
  pub system : SoundSystem x
  pub slot : k < 8
  pub read : read_of file ≡ Accepted (parameters_of file)
  pub inside : partition_end (partition_for location (parameters_of file)) ≤ x.table.size
  pub clear : (j : ℕ) → j < 8 → j ≢ k → Apart (slot_of x j).partition (partition_for location (parameters_of file))
