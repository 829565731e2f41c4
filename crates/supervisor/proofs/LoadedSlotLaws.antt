-- What a sound table says of a slot that holds a pattern.
use Prim.Native.Nat.{ℕ, ◌≤◌}
use native.Mathlib.Omega.{arith}
use Rattle.table.specs.TableConditionLaws.{HoldsPattern}
use Rattle.table.specs.Table.{slot_at, partition_end}
use Rattle.table.specs.declared.table.Table.{Table}

-- its partition ends in a memory of at most 65,536 bytes
pub loaded_end : (t : Table) (k : ℕ) → HoldsPattern t k → partition_end (slot_at t k).partition ≤ 65536
loaded_end t k h = omega (arith, h.loaded.partition.inside, h.table.slots.size.fits)
