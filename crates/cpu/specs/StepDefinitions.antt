-- Names for lists of definitions: `unfolding step_definitions` opens all that a step is made of, so that a worked case, or a law of one
-- instruction, computes.
-- Nothing here has to be believed.
use Rattle.common.specs.Choice.{when◌then◌else◌}
use Rattle.steps.specs.Address.{if_fetched, if_resolved}
use Rattle.steps.specs.Result.{register_changed_of}
use Rattle.alu.specs.AluDefinitions.{alu_definitions}
use Rattle.cpu.specs.Branch.{branch_if_taken_of, branch_of, clear_ii_of, condition_met_of, indexed_branch_of, is_call_of, is_taken_of, jump_of, register_counted_of, return_enable_of, return_if_of, target_of, zero_branch_of}
use Rattle.registers.specs.Cpu.{psu_with_sense}
use Rattle.registers.specs.CpuDefinitions.{cpu_definitions}
use Rattle.decode.specs.DecodeDefinitions.{decode_definitions}
use Rattle.cpu.specs.Instruction.{execute_of, instruction_step}
use Rattle.cpu.specs.Machine.{machine_step, with_effect}
use Rattle.steps.specs.OperandDefinitions.{address_definitions, operand_definitions, result_definitions}
use Rattle.cpu.specs.Port.{read_data_of, write_data_of}
use Rattle.cpu.specs.Psw.{masked_of, tested_of}
use Rattle.registers.specs.AluResults.{with_alu_result}

-- branches, calls and returns
unfoldable pub branch_definitions : Type 0
unfolding when◌then◌else◌ if_fetched if_resolved condition_met_of register_counted_of is_taken_of is_call_of jump_of branch_if_taken_of target_of branch_of zero_branch_of indexed_branch_of return_if_of clear_ii_of return_enable_of
branch_definitions = Unit {0}

-- instructions with a mask in their second byte
unfoldable pub mask_definitions : Type 0
unfolding when◌then◌else◌ if_fetched psu_with_sense masked_of tested_of
mask_definitions = Unit {0}

-- the data port
unfoldable pub port_definitions : Type 0
unfolding when◌then◌else◌ read_data_of write_data_of
port_definitions = Unit {0}

-- an instruction a line
unfoldable pub instruction_definitions : Type 0
unfolding if_fetched register_changed_of execute_of instruction_step
instruction_definitions = Unit {0}

-- all of these, and what puts them together
unfoldable pub step_definitions : Type 0
unfolding cpu_definitions alu_definitions address_definitions operand_definitions branch_definitions mask_definitions port_definitions instruction_definitions result_definitions decode_definitions with_alu_result with_effect machine_step
step_definitions = Unit {0}
