-- Laws that the checker has shown: the ways in which a step ends, and that there are no others.
use Rattle.std.specs.Prelude.{◌≡◌, ℕ, ◌%◌, ◌<◌, Bool, true, false, List, length, Option, Some, None}
use Rattle.std.proofs.lemmas.Bool.{false≢true}
use Rattle.std.proofs.Math.Path.{refl}
use Rattle.std.proofs.Common.{sym, subst, ◌∙◌, arith}
use borrow.Author.Tests.{ltb-true}
use Rattle.steps.specs.Address.{fetch_of, if_fetched, pointer_of, resolve_of}
use Rattle.cpu.specs.Branch.{register_counted_of, is_call_of, jump_of, branch_if_taken_of, target_by, target_of, if_target, branch_of, zero_branch_of, indexed_branch_of, return_if_of, return_enable_of}
use Rattle.cpu.specs.InvariantLaws.{KeepsInvariants, LeadsTo, lead_after, lead_bytes, lead_wrapping, lead_relative, keep_advanced, keep_alu_result, keep_call, keep_return_from_call, keep_clear_ii, keep_index, keep_counted}
use Rattle.decode.specs.Decode.{decode_of, instruction_length}
use Rattle.cpu.specs.Instruction.{execute_of, instruction_step}
use Rattle.steps.specs.Operand.{Operand, Found, NoOperand, register_operand_of, immediate_operand_of, relative_operand_of, absolute_operand_of, operand_of, if_operand, access_of, is_locked, operate_on_operand_of}
use Rattle.cpu.specs.Port.{read_data_of, write_data_of, Ports}
use Rattle.steps.specs.Result.{StepResult, stopped_of, register_changed_of, operated_of}
use Rattle.registers.specs.Cpu.{counter_of}
use Rattle.cpu.specs.Psw.{masked_of, tested_of}
use Rattle.steps.specs.AddressLaws.{byte_all, address_all}
use Rattle.steps.specs.OperandLaws.{read_free, locked_below, free_above}
use Rattle.common.specs.Choice.{when◌then◌else◌}
use Rattle.common.specs.ChoiceLaws.{if_all}
use Rattle.cpu.specs.WrtdSteps.{is_wrtd, is_at_wrtd}
use Rattle.common.specs.declared.places.Address.{Address}
use Rattle.alu.specs.declared.alu.AluResult.{AluResult}
use Rattle.cpu.specs.declared.branch.Target.{Target}
use Rattle.decode.specs.declared.decode.Instruction.{Instruction}
use Rattle.decode.specs.declared.decode.Instruction.TheVariants.{Unknown, ControlPort, ExtendedPort, Operate, Strz, Nop, Halt, Spsu, Spsl, Lpsu, Lpsl, Cpsu, Cpsl, Ppsu, Ppsl, Tpsu, Tpsl, Tmi, Dar, Rrr, Rrl, Redd, Wrtd, Retc, Rete, Branch, Zbrr, Zbsr, Bxa, Bsxa}
use Rattle.decode.specs.declared.decode.BranchKind.{BranchKind}
use Rattle.decode.specs.declared.decode.Mode.{Mode}
use Rattle.decode.specs.declared.decode.Mode.TheVariants.{Register, Immediate, Relative, Absolute}
use Rattle.decode.specs.declared.decode.BranchMode.{BranchMode}
use Rattle.decode.specs.declared.decode.BranchMode.TheVariants as branch
use Rattle.decode.specs.declared.decode.Access.{Access}
use Rattle.decode.specs.declared.decode.Access.TheVariants.{Read, Write}
use Rattle.registers.specs.declared.cpu.Cpu.{Cpu}
use Rattle.cpu.specs.Endings.{Ending, EffectAllowed, continues, halts, stores, takes_input, wants_input, finds_locked, stops, puts_output, finds_full}

module _ (cpu : Cpu) (w : List ℕ) (n : ℕ) (p : Ports) where
  abbrev Ends : StepResult → Type 1
  Ends s = Ending cpu w n p false s

  outside : Ends (stopped_of cpu 6)
  outside = stops 6 (omega arith) (omega arith)

  -- an address that is there is one that the Cpu leads to
  record LeadsIfAt (f : Option Address) : Type 1 where
    led : (a : Address) → f ≡ Some a → LeadsTo cpu a

  outside_led : LeadsIfAt None
  outside_led = record { led = λ a q. let z : ◌≡◌ {A = ℕ} 0 1 = cc in absurd (omega arith) }

  at_led : (a : Address) → LeadsTo cpu a → LeadsIfAt (Some a)
  at_led a h = record { led = λ b q. let e : a ≡ b = cc in subst (LeadsTo cpu) e h }

  pointer_led : (a : Address) → LeadsIfAt (pointer_of w a)
  unfolding pointer_of
  pointer_led a = byte_all LeadsIfAt (λ e. outside_led) (λ high e. byte_all LeadsIfAt (λ e. outside_led) (λ low e. at_led _ (lead_bytes cpu high low)))

  resolve_led : (indirect : ℕ) (a : Address) → LeadsTo cpu a → LeadsIfAt (resolve_of w indirect a)
  unfolding resolve_of
  resolve_led indirect a h = if_all LeadsIfAt (λ e. at_led a h) (λ e. pointer_led a)

  -- an operand that is found lies in the window
  data OperandInside : Operand → Type 1 where
    found : (b : ℕ) (a : Address) (d : ℕ) (next : Cpu) → a.0 < length w → KeepsInvariants cpu next → OperandInside (Found b a d next)
    missing : OperandInside NoOperand

  fetched_inside : (a : Address) (b : ℕ) → fetch_of w a ≡ Some b → a.0 < length w
  unfolding fetch_of
  fetched_inside a b = if_all (λ (f : Option ℕ). f ≡ Some b → a.0 < length w) (λ e q. ltb-true _ _ e) (λ e q. let z : ◌≡◌ {A = ℕ} 0 1 = cc in omega arith)

  -- an instruction of k bytes
  module _ (k : ℕ) where
    module _ (some : 0 < length w) where
      operand_inside : (mode : Mode) (r : ℕ) → OperandInside (operand_of mode cpu k w r)
      unfolding operand_of register_operand_of immediate_operand_of relative_operand_of absolute_operand_of
      operand_inside Register r = found _ _ _ _ some (keep_advanced cpu k)
      operand_inside Immediate r = byte_all OperandInside (λ e. missing) (λ b e. found _ _ _ _ some (keep_advanced cpu k))
      operand_inside Relative r =
          byte_all OperandInside (λ e. missing) (λ second e.
          address_all OperandInside (λ e. missing) (λ a e.
          byte_all OperandInside (λ e. missing) (λ b e. found _ _ _ _ (fetched_inside a b e) (keep_advanced cpu k))))
      operand_inside Absolute r =
          byte_all OperandInside (λ e. missing) (λ high e.
          byte_all OperandInside (λ e. missing) (λ low e.
          address_all OperandInside (λ e. missing) (λ a e.
          byte_all OperandInside (λ e. missing) (λ b e. found _ _ _ _ (fetched_inside a b e) (λ i s. keep_advanced _ k i (keep_index cpu r _ _ i s))))))

      -- a store that is carried out is not below the lock
      access_ends : (access : Access) (b : ℕ) (a : Address) (d : ℕ) (next : Cpu) → a.0 < length w → KeepsInvariants cpu next → is_locked access a n ≡ false → Ends (access_of access next d b a)
      unfolding operated_of
      access_ends (Read f) b a d next h g e = continues _ (λ i s. keep_alu_result next d _ i (g i s))
      access_ends Write b a d next h g e = stores next a _ g (free_above a n e) h

      -- one that is below it stops there
      locked_ends : (access : Access) (a : Address) → a.0 < length w → is_locked access a n ≡ true → Ends (stopped_of cpu 8)
      locked_ends (Read f) a h e = absurd (false≢true (sym (read_free f a n) ∙ e))
      locked_ends Write a h e = finds_locked a (locked_below a n e) h

      if_operand_ends : (o : Operand) (access : Access) → OperandInside o → Ends (if_operand o (stopped_of cpu 6) (λ b a d next. when is_locked access a n then stopped_of cpu 8 else access_of access next d b a))
      if_operand_ends (Found b a d next) access (found _ _ _ _ h g) = if_all Ends (λ e. locked_ends access a h e) (λ e. access_ends access b a d next h g e)
      if_operand_ends NoOperand access missing = outside

      operate_ends : (mode : Mode) (access : Access) (r : ℕ) → Ends (operate_on_operand_of mode access cpu k w n r)
      unfolding operate_on_operand_of
      operate_ends mode access r = if_operand_ends (operand_of mode cpu k w r) access (operand_inside mode r)

    jump_ends : (calls : Bool) (next : Cpu) (a back : Address) → KeepsInvariants cpu next → LeadsTo cpu a → LeadsTo cpu back → Ends (jump_of calls next a back)
    unfolding jump_of
    jump_ends calls next a back g h l =
        if_all Ends {t = calls}
        (λ e. continues _ (λ i s. i.with_counter_law _ a (h i s) (keep_call next back i (l i s) (g i s))))
        (λ e. continues _ (λ i s. i.with_counter_law next a (h i s) (g i s)))

    branch_if_taken_ends : (kind : BranchKind) (r indirect : ℕ) (a back : Address) → LeadsTo cpu a → LeadsTo cpu back → Ends (branch_if_taken_of kind cpu (register_counted_of kind cpu r) w r indirect a back)
    unfolding branch_if_taken_of
    branch_if_taken_ends kind r indirect a back h l =
        if_all Ends
        (λ e.
        address_all Ends (λ e. outside) (λ t e.
        jump_ends (is_call_of kind) _ t back (keep_counted kind cpu r) ((resolve_led indirect a h).led t e) l))
        (λ e. continues _ (λ i s. i.with_counter_law _ back (l i s) (keep_counted kind cpu r i s)))

    -- what a branch's bytes say is an address that the Cpu leads to
    data TargetLed : Option Target → Type 1 where
      led_to : (t : Target) → LeadsTo cpu t.address → LeadsTo cpu t.next → TargetLed (Some t)
      led_nowhere : TargetLed None

    target_by_led : (mode : BranchMode) (second : ℕ) → TargetLed (target_by mode cpu k w second)
    target_by_led branch.Relative second = led_to _ (lead_relative cpu _ second (lead_after cpu k)) (lead_after cpu k)
    target_by_led branch.Absolute second = byte_all TargetLed (λ e. led_nowhere) (λ third e. led_to _ (lead_bytes cpu second third) (lead_after cpu k))

    target_led : (mode : BranchMode) → TargetLed (target_of mode cpu k w)
    unfolding target_of
    target_led mode = byte_all TargetLed (λ e. led_nowhere) (λ second e. target_by_led mode second)

    if_target_ends : (t : Option Target) (kind : BranchKind) (r : ℕ) → TargetLed t → Ends (if_target t (stopped_of cpu 6) (λ indirect a back. branch_if_taken_of kind cpu (register_counted_of kind cpu r) w r indirect a back))
    if_target_ends (Some t) kind r (led_to _ h l) = branch_if_taken_ends kind r t.indirect t.address t.next h l
    if_target_ends None kind r led_nowhere = outside

    branch_ends : (mode : BranchMode) (kind : BranchKind) (r : ℕ) → Ends (branch_of mode kind cpu k w r)
    unfolding branch_of
    branch_ends mode kind r = if_target_ends (target_of mode cpu k w) kind r (target_led mode)

    zero_branch_ends : (calls : Bool) → Ends (zero_branch_of calls cpu k w)
    unfolding zero_branch_of
    zero_branch_ends calls =
        byte_all Ends (λ e. outside) (λ second e.
        address_all Ends (λ e. outside) (λ t e.
        jump_ends calls cpu t _ (λ i s. s) ((resolve_led _ _ (lead_relative cpu _ second (lead_bytes cpu 0 0))).led t e) (lead_after cpu k)))

    indexed_branch_ends : (calls : Bool) → Ends (indexed_branch_of calls cpu k w)
    unfolding indexed_branch_of
    indexed_branch_ends calls =
        byte_all Ends (λ e. outside) (λ second e.
        byte_all Ends (λ e. outside) (λ third e.
        address_all Ends (λ e. outside) (λ t e.
        jump_ends calls cpu _ _ (λ i s. s) (lead_wrapping cpu t _) (lead_after cpu k))))

    return_if_ends : (v : ℕ) → Ends (return_if_of cpu k v)
    unfolding return_if_of
    return_if_ends v = if_all Ends (λ e. continues _ (keep_return_from_call cpu)) (λ e. continues _ (keep_advanced cpu k))

    return_enable_ends : (v : ℕ) → Ends (return_enable_of cpu k v)
    unfolding return_enable_of
    return_enable_ends v = if_all Ends (λ e. continues _ (λ i s. keep_clear_ii _ i (keep_return_from_call cpu i s))) (λ e. continues _ (keep_advanced cpu k))

    masked_ends : (f : ℕ → Cpu) → ((mask : ℕ) → KeepsInvariants cpu (f mask)) → Ends (masked_of cpu k w f)
    unfolding masked_of
    masked_ends f g = byte_all Ends (λ e. outside) (λ mask e. continues _ (λ i s. keep_advanced _ k i (g mask i s)))

    tested_ends : (v : ℕ) → Ends (tested_of cpu k w v)
    unfolding tested_of
    tested_ends v = masked_ends _ (λ mask i s. i.with_psl_law cpu _ s)

    register_changed_ends : (r : ℕ) (o : AluResult) → Ends (register_changed_of cpu k r o)
    unfolding register_changed_of
    register_changed_ends r o = continues _ (λ i s. keep_advanced _ k i (keep_alu_result cpu r o i s))

    read_data_ends : (r : ℕ) → Ends (read_data_of cpu k p r)
    unfolding read_data_of
    read_data_ends r = if_all Ends (λ e. takes_input _ (λ i s. keep_advanced _ k i (keep_alu_result cpu r _ i s)) e) (λ e. wants_input e)

    write_data_ends : (r : ℕ) → Ending cpu w n p true (write_data_of cpu k p r)
    unfolding write_data_of
    write_data_ends r = if_all (Ending cpu w n p true) (λ e. finds_full e) (λ e. puts_output _ _ (keep_advanced cpu k) e)

    execute_ends : (i : Instruction) (r : ℕ) → 0 < length w → Ending cpu w n p (is_wrtd i) (execute_of i cpu k w n p r)
    unfolding execute_of is_wrtd
    execute_ends Unknown r h = stops 5 (omega arith) (omega arith)
    execute_ends ControlPort r h = stops 7 (omega arith) (omega arith)
    execute_ends ExtendedPort r h = stops 7 (omega arith) (omega arith)
    execute_ends (Operate mode access) r h = operate_ends h mode access r
    execute_ends Strz r h = register_changed_ends r _
    execute_ends Nop r h = continues _ (keep_advanced cpu k)
    execute_ends Halt r h = halts _ (keep_advanced cpu k)
    execute_ends Spsu r h = register_changed_ends 0 _
    execute_ends Spsl r h = register_changed_ends 0 _
    execute_ends Lpsu r h = continues _ (λ i s. keep_advanced _ k i (i.with_psu_law cpu _ (i.stored_psu_law _) s))
    execute_ends Lpsl r h = continues _ (λ i s. keep_advanced _ k i (i.with_psl_law cpu _ s))
    execute_ends Cpsu r h = masked_ends _ (λ mask i s. i.with_psu_law cpu _ (i.stored_psu_law _) s)
    execute_ends Cpsl r h = masked_ends _ (λ mask i s. i.with_psl_law cpu _ s)
    execute_ends Ppsu r h = masked_ends _ (λ mask i s. i.with_psu_law cpu _ (i.stored_psu_law _) s)
    execute_ends Ppsl r h = masked_ends _ (λ mask i s. i.with_psl_law cpu _ s)
    execute_ends Tpsu r h = tested_ends _
    execute_ends Tpsl r h = tested_ends _
    execute_ends Tmi r h = tested_ends _
    execute_ends Dar r h = register_changed_ends r _
    execute_ends Rrr r h = register_changed_ends r _
    execute_ends Rrl r h = register_changed_ends r _
    execute_ends Redd r h = read_data_ends r
    execute_ends Wrtd r h = write_data_ends r
    execute_ends Retc r h = return_if_ends r
    execute_ends Rete r h = return_enable_ends r
    execute_ends (Branch mode kind) r h = branch_ends mode kind r
    execute_ends Zbrr r h = zero_branch_ends false
    execute_ends Zbsr r h = zero_branch_ends true
    execute_ends Bxa r h = indexed_branch_ends false
    execute_ends Bsxa r h = indexed_branch_ends true

  -- every step ends in one of the nine ways
  pub step_ends : Ending cpu w n p (is_at_wrtd cpu w) (instruction_step cpu w n p)
  unfolding instruction_step is_at_wrtd if_fetched
  step_ends = go (fetch_of w (counter_of cpu)) refl
    where
      go : (f : Option ℕ) → fetch_of w (counter_of cpu) ≡ f
          → Ending cpu w n p (if_fetched f false (λ op. is_wrtd (decode_of op))) (if_fetched f (stopped_of cpu 6) (λ op. execute_of (decode_of op) cpu (instruction_length (decode_of op)) w n p (op % 4)))
      go (Some op) e = execute_ends (instruction_length (decode_of op)) (decode_of op) (op % 4) (omega (arith, fetched_inside _ op e))
      go None e = outside

pub ending_allowed : {cpu : Cpu} {w : List ℕ} {n : ℕ} {p : Ports} {wrtd : Bool} {s : StepResult} → Ending cpu w n p wrtd s → EffectAllowed p s.effect
ending_allowed (continues next k) = tt
ending_allowed (halts next k) = tt
ending_allowed (stores next a v k l h) = tt
ending_allowed (takes_input next k h) = h
ending_allowed (puts_output next v k h) = h
ending_allowed (wants_input h) = tt
ending_allowed (finds_full h) = tt
ending_allowed (finds_locked a l h) = tt
ending_allowed (stops n h l) = tt
