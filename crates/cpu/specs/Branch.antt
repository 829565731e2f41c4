-- Definitions that must be believed: branches, calls and returns (document 01, "The machine"; manual, "Subroutine Linkage" and
-- "Detailed Processor Instructions").
use Rattle.std.specs.Prelude.{ℕ, ◌+◌, ◌/◌, ◌%◌, Bool, true, false, not, List, Option, Some, None, ◌==◌}
use Rattle.steps.specs.Address.{add_wrapping, fetch_of, if_fetched, if_resolved, address_of, resolve_of, relative_of}
use Rattle.common.specs.Choice.{when◌then◌else◌}
use Rattle.steps.specs.Result.{StepResult, running_of, stopped_of, address_after, advanced_of}
use Rattle.alu.specs.Psl.{field_cc}
use Rattle.registers.specs.Cpu.{without_ii, psl_of, psu_of, register_of, with_register, with_counter, with_psu, call_of, return_from_call_of}
use Rattle.common.specs.declared.places.Address.{Address}
use Rattle.cpu.specs.declared.branch.Target.{Target}
use Rattle.decode.specs.declared.decode.BranchKind.{BranchKind}
use Rattle.decode.specs.declared.decode.BranchKind.TheVariants.{Bct, Bcf, Brn, Bir, Bdr, Bst, Bsf, Bsn}
use Rattle.decode.specs.declared.decode.BranchMode.{BranchMode}
use Rattle.decode.specs.declared.decode.BranchMode.TheVariants.{Relative, Absolute}
use Rattle.registers.specs.declared.cpu.Cpu.{Cpu}

-- a condition holds if CC equals it, or if it is 3
unfoldable pub condition_met_of : ℕ → ℕ → Bool
condition_met_of psl v = when v == 3 then true else (field_cc psl == v)

-- BIR and BDR step the register first, modulo 256, and leave CC
unfoldable pub register_counted_of : BranchKind → Cpu → ℕ → Cpu
register_counted_of Bct cpu r = cpu
register_counted_of Bcf cpu r = cpu
register_counted_of Brn cpu r = cpu
register_counted_of Bir cpu r = with_register cpu r ((register_of cpu r + 1) % 256)
register_counted_of Bdr cpu r = with_register cpu r ((register_of cpu r + 255) % 256)
register_counted_of Bst cpu r = cpu
register_counted_of Bsf cpu r = cpu
register_counted_of Bsn cpu r = cpu

-- register r is not zero
abbrev pub register_not_zero : Cpu → ℕ → Bool
register_not_zero cpu r = not (register_of cpu r == 0)

-- is the branch taken: on a condition that holds, on one that does not, on a register that is not zero
unfoldable pub is_taken_of : BranchKind → Cpu → ℕ → Bool
is_taken_of Bct cpu r = condition_met_of (psl_of cpu) r
is_taken_of Bcf cpu r = not (condition_met_of (psl_of cpu) r)
is_taken_of Brn cpu r = register_not_zero cpu r
is_taken_of Bir cpu r = register_not_zero cpu r
is_taken_of Bdr cpu r = register_not_zero cpu r
is_taken_of Bst cpu r = condition_met_of (psl_of cpu) r
is_taken_of Bsf cpu r = not (condition_met_of (psl_of cpu) r)
is_taken_of Bsn cpu r = register_not_zero cpu r

-- is it a call
unfoldable pub is_call_of : BranchKind → Bool
is_call_of Bct = false
is_call_of Bcf = false
is_call_of Brn = false
is_call_of Bir = false
is_call_of Bdr = false
is_call_of Bst = true
is_call_of Bsf = true
is_call_of Bsn = true

-- the counter goes to an address; a call stores the address of the next instruction
unfoldable pub jump_of : Bool → Cpu → Address → Address → StepResult
jump_of calls cpu a next = when calls then running_of (with_counter (call_of cpu next) a) else running_of (with_counter cpu a)

-- the target's pointer is read only if the branch is taken. A pointer outside undoes the step of the register too
unfoldable pub branch_if_taken_of : BranchKind → Cpu → Cpu → List ℕ → ℕ → ℕ → Address → Address → StepResult
branch_if_taken_of kind cpu counted window r indirect a next =
    when is_taken_of kind counted r
    then if_resolved (resolve_of window indirect a) (stopped_of cpu 6) (λ t. jump_of (is_call_of kind) counted t next)
    else running_of (with_counter counted next)

-- what the own bytes of a branch of k bytes say: the indirect bit, the address, and the address of the next instruction.
-- The second byte has a displacement, or begins fifteen bits of address
abbrev pub target_by : BranchMode → Cpu → ℕ → List ℕ → ℕ → Option Target
target_by Relative cpu k window second =
    Some (record { indirect = second / 128; address = relative_of (address_after cpu k) second; next = address_after cpu k })
target_by Absolute cpu k window second =
    if_fetched (fetch_of window (address_after cpu 2)) None (λ third.
    Some (record { indirect = second / 128; address = address_of second third; next = address_after cpu k }))

-- the target by the second byte; outside there is none
unfoldable pub target_of : BranchMode → Cpu → ℕ → List ℕ → Option Target
target_of mode cpu k window = if_fetched (fetch_of window (address_after cpu 1)) None (λ second. target_by mode cpu k window second)

-- what follows if there is a target, and what if there is none
abbrev pub if_target : {A : Type 0} → Option Target → A → (ℕ → Address → Address → A) → A
if_target (Some t) stop go = go t.indirect t.address t.next
if_target None stop go = stop

-- the bytes of a branch that is not taken are fetched all the same
unfoldable pub branch_of : BranchMode → BranchKind → Cpu → ℕ → List ℕ → ℕ → StepResult
branch_of mode kind cpu k window r =
    if_target (target_of mode cpu k window) (stopped_of cpu 6) (λ indirect a next.
    branch_if_taken_of kind cpu (register_counted_of kind cpu r) window r indirect a next)

-- ZBRR and ZBSR: the displacement is from address 0, in page 0
unfoldable pub zero_branch_of : Bool → Cpu → ℕ → List ℕ → StepResult
zero_branch_of calls cpu k window =
    if_fetched (fetch_of window (address_after cpu 1)) (stopped_of cpu 6) (λ second.
    if_resolved (resolve_of window (second / 128) (relative_of (record { 0 = 0 }) second)) (stopped_of cpu 6) (λ t.
    jump_of calls cpu t (address_after cpu k)))

-- BXA and BSXA: R3 is added, modulo 32,768
unfoldable pub indexed_branch_of : Bool → Cpu → ℕ → List ℕ → StepResult
indexed_branch_of calls cpu k window =
    if_fetched (fetch_of window (address_after cpu 1)) (stopped_of cpu 6) (λ second.
    if_fetched (fetch_of window (address_after cpu 2)) (stopped_of cpu 6) (λ third.
    if_resolved (resolve_of window (second / 128) (address_of second third)) (stopped_of cpu 6) (λ t.
    jump_of calls cpu (add_wrapping t (register_of cpu 3)) (address_after cpu k))))

-- RETC, and RETE, which clears II if it is taken
unfoldable pub return_if_of : Cpu → ℕ → ℕ → StepResult
return_if_of cpu k v = when condition_met_of (psl_of cpu) v then running_of (return_from_call_of cpu) else running_of (advanced_of cpu k)

unfoldable pub clear_ii_of : Cpu → Cpu
clear_ii_of cpu = with_psu cpu (without_ii (psu_of cpu))

unfoldable pub return_enable_of : Cpu → ℕ → ℕ → StepResult
return_enable_of cpu k v = when condition_met_of (psl_of cpu) v then running_of (clear_ii_of (return_from_call_of cpu)) else running_of (advanced_of cpu k)
