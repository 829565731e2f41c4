-- `system::conditions::check_system`: the table's conditions first, then the memory's length.
use Rattle.table.specs.CheckLaws.{front_refuses}
use Rattle.table.specs.TableConditionLaws.{table_numbered}
use Rattle.table.specs.TableConditions.{table_conditions}
use Rattle.system.specs.Conditions.{system_conditions}
use Rattle.system.proofs.conditions.check_system.Goals as goal

pub returns-in_err-check_table : goal.returns-in_err-check_table
unfolding system_conditions
returns-in_err-check_table c = front_refuses (table_conditions c.args.table) _ (table_numbered c.args.table) _ _ c.in_err-check_table.ensures c.from_residual.ensures.1
