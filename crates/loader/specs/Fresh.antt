-- Definitions that must be believed: the fresh machine of a pattern file, and the bytes of its partition
-- (document 01, "Floor and bays": what mounting writes).
use Rattle.std.specs.Prelude.{List, [], ◌++◌, ℕ, length, replicate}
use Rattle.cpu.specs.Machine.{Machine, machine_of}
use Rattle.registers.specs.State.{empty_state, with_status, with_filled}
use Rattle.registers.specs.Cpu.{fresh_cpu}
use Rattle.registers.specs.declared.state.State.{State}
use Rattle.pattern.specs.Image.{padded}
use Rattle.pattern.specs.Reader.{read_of, parameters_of, if_accepted, image_of, input_body_of}
use Rattle.pattern.specs.declared.parameters.Parameters.{Parameters}

-- a fresh machine, its counter at the start address; status 1; n bytes of input unread
unfoldable pub fresh_state : Parameters → ℕ → State
fresh_state p n = with_filled n (with_status 1 (empty_state (fresh_cpu p.start)))

-- the whole partition: the code and the first input at the fronts of their parts, unused bytes zero; of a refused file nothing
unfoldable pub fresh_bytes : List ℕ → List ℕ
fresh_bytes file =
    if_accepted (read_of file) []
    (image_of file ++ padded (parameters_of file).layout.input (input_body_of file) ++ replicate (parameters_of file).layout.output 0)

-- the state of an accepted file, its first input unread
abbrev pub file_state : List ℕ → State
file_state file = fresh_state (parameters_of file) (length (input_body_of file))

-- the lone machine of an accepted file
unfoldable pub fresh_machine : List ℕ → Machine
fresh_machine file = machine_of (parameters_of file).layout (file_state file) (fresh_bytes file)
