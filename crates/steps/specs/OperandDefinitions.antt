-- Names for lists of definitions: `unfolding operand_definitions` opens all that an operand, and what is done with it, is made of.
-- Nothing here has to be believed.
use Rattle.common.specs.Choice.{when◌then◌else◌}
use Rattle.steps.specs.Address.{displaced_of, displacement_of, fetch_of, if_fetched, if_resolved, pointer_of, relative_of, resolve_of}
use Rattle.steps.specs.Operand.{absolute_operand_of, data_register_of, immediate_operand_of, index_value_of, indexed_address_of, is_locked, operand_of, operate_on_operand_of, register_operand_of, relative_operand_of, stepped_index_of}
use Rattle.steps.specs.Result.{advanced_of, operated_of, register_changed_of}

-- addresses, and reading through them
unfoldable pub address_definitions : Type 0
unfolding when◌then◌else◌ fetch_of if_fetched if_resolved pointer_of resolve_of displacement_of displaced_of relative_of
address_definitions = Unit {0}

-- the ways in which a step ends
unfoldable pub result_definitions : Type 0
unfolding advanced_of register_changed_of operated_of
result_definitions = Unit {0}

-- the operand of each addressing mode
unfoldable pub operand_definitions : Type 0
unfolding when◌then◌else◌ if_fetched if_resolved index_value_of indexed_address_of data_register_of stepped_index_of register_operand_of immediate_operand_of relative_operand_of absolute_operand_of operand_of is_locked operate_on_operand_of
operand_definitions = Unit {0}
