-- `system::conditions::check_system_loaded_slot`: the system's conditions first, then the slot's.
use Rattle.table.specs.CheckLaws.{front_refuses}
use Rattle.system.specs.ConditionLaws.{system_numbered}
use Rattle.system.proofs.conditions.check_system_loaded_slot.Goals as goal

pub returns-in_err-check_system : goal.returns-in_err-check_system
returns-in_err-check_system c = front_refuses _ _ (system_numbered _) _ _ c.in_err-check_system.ensures c.from_residual.ensures.1
