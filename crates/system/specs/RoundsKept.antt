-- What theorems speak of: what rounds may change of a system.
use Rattle.std.specs.Prelude.{◌≡◌, ℕ, get_or}
use Rattle.system.specs.ConditionLaws.{SoundSystem}
use Rattle.system.specs.System.{System, slot_of}
use Rattle.table.specs.Table.{InNoPartition, is_empty}

-- y is x but for what runs in loaded slots, and their bytes
pub record DiffersByRunning (x y : System) : Type 0 where
  pub system : SoundSystem y
  pub partitions : (k : ℕ) → (slot_of y k).partition ≡ (slot_of x k).partition
  pub loaded : (k : ℕ) → is_empty (slot_of y k) ≡ is_empty (slot_of x k)
  pub bytes : (i : ℕ) → InNoPartition i x.table → get_or y.memory i 0 ≡ get_or x.memory i 0
