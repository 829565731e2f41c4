-- What a sound table says of the PSU of a slot that holds a pattern, and what a refused report answers.
use Prim.Native.Nat.{ℕ, ◌<◌}
use mathlib.Core.Path.{◌≡◌, ◌∙◌, refl, sym}
use native.Mathlib.Omega.{arith}
use mathlib.Core.List.{◌++◌}
use borrow.Author.Tests.{ne_eqb}
use Rattle.common.specs.Choice.{when◌then◌else◌}
use Rattle.common.specs.RefusalLaws.{number_some, left_to_rest}
use Rattle.common.specs.Refusals.{refusal_by, refusal_number}
use Rattle.common.specs.declared.refusals.Refusal.{Refusal}
use Rattle.queries.specs.Queries.{query_conditions, refused_report, report_of}
use Rattle.table.specs.TableConditions.{table_conditions, loaded_slot_conditions}
use Rattle.registers.specs.Cpu.{stored_psu}
use Rattle.table.specs.TableConditionLaws.{HoldsPattern, holds_pattern, table_numbered}
use Rattle.table.specs.Table.{slot_at}
use Rattle.table.specs.declared.table.Table.{Table}

stored_small : (psu : ℕ) → stored_psu psu ≡ psu → psu < 128
stored_small psu e = omega arith

-- PSU is stored without Sense
pub psu_small : (t : Table) (k : ℕ) → HoldsPattern t k → (slot_at t k).state.cpu.psu < 128
psu_small t k h = stored_small (slot_at t k).state.cpu.psu h.loaded.state.psu

-- a report that the conditions refuse
pub refused_report_law : (t : Table) (k : ℕ) (refusal : Refusal) → refusal_number refusal ≡ refusal_by (table_conditions t ++ loaded_slot_conditions t k)
    → refused_report (refusal_number refusal) ≡ report_of t k
unfolding report_of query_conditions when◌then◌else◌
refused_report_law t k refusal e = rw (← e, ne_eqb _ _ (number_some refusal))

-- where neither the table nor the slot refuses, the slot holds a pattern
pub pattern_held : (t : Table) (k : ℕ) → 0 ≡ refusal_by (table_conditions t) → 0 ≡ refusal_by (loaded_slot_conditions t k) → HoldsPattern t k
pattern_held t k sound loaded = holds_pattern t k (loaded ∙ sym (left_to_rest (table_conditions t) (loaded_slot_conditions t k) (table_numbered t) sound refl)) refl
