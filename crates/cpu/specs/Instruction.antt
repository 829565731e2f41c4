-- Definitions that must be believed: one step, an instruction a line (document 01, "The machine" and "Status of a station").
use Rattle.std.specs.Prelude.{ℕ, ◌-◌, ◌%◌, true, false, List, bit_and, bit_or}
use Rattle.steps.specs.Address.{fetch_of, if_fetched}
use Rattle.alu.specs.Alu.{load_result_of, rotate_left_of, rotate_right_of, decimal_adjust_of}
use Rattle.cpu.specs.Branch.{branch_of, zero_branch_of, indexed_branch_of, return_if_of, return_enable_of}
use Rattle.decode.specs.Decode.{decode_of, instruction_length}
use Rattle.steps.specs.Operand.{operate_on_operand_of}
use Rattle.cpu.specs.Port.{read_data_of, write_data_of, Ports}
use Rattle.steps.specs.Result.{Nothing, StepResult, step_result, running_of, stopped_of, advanced_of, register_changed_of}
use Rattle.registers.specs.Cpu.{stored_psu, counter_of, psl_of, psu_of, register_of, with_psl, with_psu, psu_with_sense}
use Rattle.cpu.specs.Psw.{masked_of, tested_of}
use Rattle.decode.specs.declared.decode.Instruction.{Instruction}
use Rattle.decode.specs.declared.decode.Instruction.TheVariants.{Unknown, ControlPort, ExtendedPort, Operate, Strz, Nop, Halt, Spsu, Spsl, Lpsu, Lpsl, Cpsu, Cpsl, Ppsu, Ppsl, Tpsu, Tpsl, Tmi, Dar, Rrr, Rrl, Redd, Wrtd, Retc, Rete, Branch, Zbrr, Zbsr, Bxa, Bsxa}
use Rattle.registers.specs.declared.cpu.Cpu.{Cpu}

-- an instruction a line: the Cpu, the instruction's length, the window, how many of its bytes are locked, what the buffers offer, and the
-- last two bits of its code
unfoldable pub execute_of : Instruction → Cpu → ℕ → List ℕ → ℕ → Ports → ℕ → StepResult
execute_of Unknown cpu k w n p r = stopped_of cpu 5
execute_of ControlPort cpu k w n p r = stopped_of cpu 7
execute_of ExtendedPort cpu k w n p r = stopped_of cpu 7
execute_of (Operate mode access) cpu k w n p r = operate_on_operand_of mode access cpu k w n r
execute_of Strz cpu k w n p r = register_changed_of cpu k r (load_result_of (psl_of cpu) (register_of cpu 0))
execute_of Nop cpu k w n p r = running_of (advanced_of cpu k)
execute_of Halt cpu k w n p r = step_result (advanced_of cpu k) 2 Nothing
execute_of Spsu cpu k w n p r = register_changed_of cpu k 0 (load_result_of (psl_of cpu) (psu_with_sense cpu p.unread))
execute_of Spsl cpu k w n p r = register_changed_of cpu k 0 (load_result_of (psl_of cpu) (psl_of cpu))
execute_of Lpsu cpu k w n p r = running_of (advanced_of (with_psu cpu (stored_psu (register_of cpu 0))) k)
execute_of Lpsl cpu k w n p r = running_of (advanced_of (with_psl cpu (register_of cpu 0)) k)
execute_of Cpsu cpu k w n p r = masked_of cpu k w (λ mask. with_psu cpu (stored_psu (bit_and (psu_of cpu) (255 - mask))))
execute_of Cpsl cpu k w n p r = masked_of cpu k w (λ mask. with_psl cpu (bit_and (psl_of cpu) (255 - mask)))
execute_of Ppsu cpu k w n p r = masked_of cpu k w (λ mask. with_psu cpu (stored_psu (bit_or (psu_of cpu) mask)))
execute_of Ppsl cpu k w n p r = masked_of cpu k w (λ mask. with_psl cpu (bit_or (psl_of cpu) mask))
execute_of Tpsu cpu k w n p r = tested_of cpu k w (psu_with_sense cpu p.unread)
execute_of Tpsl cpu k w n p r = tested_of cpu k w (psl_of cpu)
execute_of Tmi cpu k w n p r = tested_of cpu k w (register_of cpu r)
execute_of Dar cpu k w n p r = register_changed_of cpu k r (decimal_adjust_of (psl_of cpu) (register_of cpu r))
execute_of Rrr cpu k w n p r = register_changed_of cpu k r (rotate_right_of (psl_of cpu) (register_of cpu r))
execute_of Rrl cpu k w n p r = register_changed_of cpu k r (rotate_left_of (psl_of cpu) (register_of cpu r))
execute_of Redd cpu k w n p r = read_data_of cpu k p r
execute_of Wrtd cpu k w n p r = write_data_of cpu k p r
execute_of Retc cpu k w n p r = return_if_of cpu k r
execute_of Rete cpu k w n p r = return_enable_of cpu k r
execute_of (Branch mode kind) cpu k w n p r = branch_of mode kind cpu k w r
execute_of Zbrr cpu k w n p r = zero_branch_of false cpu k w
execute_of Zbsr cpu k w n p r = zero_branch_of true cpu k w
execute_of Bxa cpu k w n p r = indexed_branch_of false cpu k w
execute_of Bsxa cpu k w n p r = indexed_branch_of true cpu k w

-- the first byte outside gives 6; its code says the instruction, with its length, and its last two bits the register or the condition
unfoldable pub instruction_step : Cpu → List ℕ → ℕ → Ports → StepResult
instruction_step cpu w n p =
    if_fetched (fetch_of w (counter_of cpu)) (stopped_of cpu 6) (λ op.
    execute_of (decode_of op) cpu (instruction_length (decode_of op)) w n p (op % 4))
