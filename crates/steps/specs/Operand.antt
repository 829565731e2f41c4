-- Definitions that must be believed: the operand of each addressing mode, and what is done with it (document 01, "The machine"; manual,
-- "Addressing Modes"; document 02, U6).
use Rattle.std.specs.Prelude.{ℕ, ◌+◌, ◌*◌, ◌/◌, ◌%◌, Bool, false, List, Option, Some, None, ◌==◌, nat_eq, nat_lt}
use Rattle.steps.specs.Address.{add_in_page, add_wrapping, fetch_of, if_fetched, if_resolved, pointer_of, resolve_of, relative_of}
use Rattle.common.specs.Choice.{when◌then◌else◌}
use Rattle.steps.specs.Result.{StepResult, Store, step_result, stopped_of, address_after, advanced_of, operated_of}
use Rattle.registers.specs.Cpu.{counter_of, register_of, with_register}
use Rattle.common.specs.declared.places.Address.{Address}
use Rattle.decode.specs.declared.decode.Mode.{Mode}
use Rattle.decode.specs.declared.decode.Mode.TheVariants.{Register, Immediate, Relative, Absolute}
use Rattle.decode.specs.declared.decode.Access.{Access}
use Rattle.decode.specs.declared.decode.Access.TheVariants.{Read, Write}
use Rattle.registers.specs.declared.cpu.Cpu.{Cpu}

-- an operand: its byte, its address, the register that it is used with, and the Cpu after the instruction's own bytes:
-- the index stepped, the counter at the next instruction. An operand in a register or in the instruction has no address:
-- 0 stands there, and no instruction uses it
pub data Operand : Type 0 where
  Found : ℕ → Address → ℕ → Cpu → Operand
  NoOperand : Operand

abbrev pub no_address : Address
no_address = record { 0 = 0 }

-- the index by the two control bits: none, one added first, one subtracted first, plain; modulo 256
unfoldable pub index_value_of : ℕ → ℕ → ℕ
index_value_of control v =
    when control == 0 then 0
    else (when nat_eq control 1 then (v + 1) % 256
    else (when nat_eq control 2 then (v + 255) % 256 else v))

-- the index is added within the page; after an indirect pointer it is added modulo 32,768
unfoldable pub indexed_address_of : List ℕ → ℕ → Address → ℕ → Option Address
indexed_address_of window indirect a i =
    when indirect == 0 then Some (add_in_page a i)
    else if_resolved (pointer_of window a) None (λ p. Some (add_wrapping p i))

-- thirteen bits of the instruction in its own page
abbrev pub data_address_of : Cpu → ℕ → ℕ → Address
data_address_of cpu high low = record { 0 = (counter_of cpu).0 / 8192 * 8192 + (high % 32 * 256 + low) }

-- indexed, the named register is the index and R0 the data
unfoldable pub data_register_of : ℕ → ℕ → ℕ
data_register_of control r = when control == 0 then r else 0

-- the index register after its step; without indexing none is stepped
unfoldable pub stepped_index_of : Cpu → ℕ → ℕ → ℕ → Cpu
stepped_index_of cpu r control i = when control == 0 then cpu else with_register cpu r i

-- the operand of an instruction of k bytes, mode by mode. In a register: the one that the code names, used with R0
unfoldable pub register_operand_of : Cpu → ℕ → ℕ → Operand
register_operand_of cpu k r = Found (register_of cpu r) no_address 0 (advanced_of cpu k)

-- immediate: the second byte
unfoldable pub immediate_operand_of : Cpu → ℕ → List ℕ → ℕ → Operand
immediate_operand_of cpu k window r =
    if_fetched (fetch_of window (address_after cpu 1)) NoOperand (λ b. Found b no_address r (advanced_of cpu k))

-- relative, by the second byte: bit 7 for indirect, and a displacement from the next instruction
unfoldable pub relative_operand_of : Cpu → ℕ → List ℕ → ℕ → Operand
relative_operand_of cpu k window r =
    if_fetched (fetch_of window (address_after cpu 1)) NoOperand (λ second.
    if_resolved (resolve_of window (second / 128) (relative_of (address_after cpu k) second)) NoOperand (λ a.
    if_fetched (fetch_of window a) NoOperand (λ b.
    Found b a r (advanced_of cpu k))))

-- absolute, by the second and the third byte: bit 7 for indirect, bits 6 and 5 for indexing, and thirteen bits of address
unfoldable pub absolute_operand_of : Cpu → ℕ → List ℕ → ℕ → Operand
absolute_operand_of cpu k window r =
    if_fetched (fetch_of window (address_after cpu 1)) NoOperand (λ high.
    if_fetched (fetch_of window (address_after cpu 2)) NoOperand (λ low.
    if_resolved (indexed_address_of window (high / 128) (data_address_of cpu high low) (index_value_of (high / 32 % 4) (register_of cpu r))) NoOperand (λ a.
    if_fetched (fetch_of window a) NoOperand (λ b.
    Found b a (data_register_of (high / 32 % 4) r) (advanced_of (stepped_index_of cpu r (high / 32 % 4) (index_value_of (high / 32 % 4) (register_of cpu r))) k)))))

-- the operand by its mode
unfoldable pub operand_of : Mode → Cpu → ℕ → List ℕ → ℕ → Operand
operand_of Register cpu k window r = register_operand_of cpu k r
operand_of Immediate cpu k window r = immediate_operand_of cpu k window r
operand_of Relative cpu k window r = relative_operand_of cpu k window r
operand_of Absolute cpu k window r = absolute_operand_of cpu k window r

-- what follows if there is an operand, and what if there is none
abbrev pub if_operand : {A : Type 0} → Operand → A → (ℕ → Address → ℕ → Cpu → A) → A
if_operand (Found b a d cpu) stop go = go b a d cpu
if_operand NoOperand stop go = stop

-- the operand is worked on, or the register stored over it
abbrev pub access_of : Access → Cpu → ℕ → ℕ → Address → StepResult
access_of (Read f) cpu d b a = operated_of f cpu d b
access_of Write cpu d b a = step_result cpu 1 (Store a (register_of cpu d))

-- a store below the lock; reads are free
unfoldable pub is_locked : Access → Address → ℕ → Bool
is_locked (Read f) a locked = false
is_locked Write a locked = nat_lt a.0 locked

-- an operand that is outside the window anywhere stops the instruction with status 6; then a store below the lock, with status 8
unfoldable pub operate_on_operand_of : Mode → Access → Cpu → ℕ → List ℕ → ℕ → ℕ → StepResult
operate_on_operand_of mode access cpu k window locked r =
    if_operand (operand_of mode cpu k window r) (stopped_of cpu 6) (λ b a d after.
    when is_locked access a locked then stopped_of cpu 8 else access_of access after d b a)
