-- Laws that the checker has shown: document 01's proved cases K1 to K9 and K12, and cases of document 02's locked front, computed by the
-- definitions.
use Rattle.std.specs.Prelude.{◌≡◌, ℕ, List, [], ◌∷◌, refl}
use Rattle.cpu.specs.Machine.{Machine, machine_step}
use Rattle.registers.specs.State.{empty_state, with_status}
use Rattle.registers.specs.Cpu.{fresh_cpu, with_register, with_psu, with_psl}
use Rattle.registers.specs.declared.cpu.Cpu.{Cpu}
use Rattle.cpu.specs.StepDefinitions.{step_definitions}

-- counter, R0, PSU and PSL as given; the other registers and the return addresses zero
abbrev pub cpu_with : ℕ → ℕ → ℕ → ℕ → Cpu
cpu_with counter r0 psu psl = with_psl (with_psu (with_register (fresh_cpu (record { 0 = counter })) 0 r0) psu) psl

-- a machine with that window, nothing to read and room for one byte
abbrev pub machine_with : ℕ → Cpu → List ℕ → Machine
machine_with status cpu window =
    record { state = with_status status (empty_state cpu); locked = 0; window = window; input = 0 ∷ []; output = 0 ∷ [] }

-- one step of a running machine leaves it running, with the window as it was
abbrev StepsTo : Cpu → List ℕ → Cpu → Type 0
StepsTo before window after = machine_step (machine_with 1 before window) ≡ machine_with 1 after window

pub record WorkedSteps : Type 0 where
  pub k1 : StepsTo (cpu_with 0 0x7F 0 0x00) (0x84 ∷ 0x01 ∷ []) (cpu_with 2 0x80 0 0xA4)
  pub k2 : StepsTo (cpu_with 0 0xFF 0 0x00) (0x84 ∷ 0x01 ∷ []) (cpu_with 2 0x00 0 0x21)
  pub k3 : StepsTo (cpu_with 0 0x00 0 0x00) (0xA4 ∷ 0x01 ∷ []) (cpu_with 2 0xFF 0 0x80)
  pub k4 : StepsTo (cpu_with 0 0x05 0 0x00) (0xA4 ∷ 0x05 ∷ []) (cpu_with 2 0x00 0 0x21)
  pub k5 : StepsTo (cpu_with 0 0x80 0 0x00) (0xE4 ∷ 0x01 ∷ []) (cpu_with 2 0x80 0 0x80)
  pub k5_unsigned : StepsTo (cpu_with 0 0x80 0 0x02) (0xE4 ∷ 0x01 ∷ []) (cpu_with 2 0x80 0 0x42)
  pub k6 : StepsTo (cpu_with 0 0xC2 0 0x20) (0x94 ∷ []) (cpu_with 1 0x62 0 0x60)
  pub k7 : StepsTo (cpu_with 0 0 0 0) (0x1B ∷ 0x40 ∷ []) (cpu_with 0x1FC2 0 0 0)
  pub k8 : StepsTo (cpu_with 0 0x80 0 0x00) (0xD0 ∷ []) (cpu_with 1 0x01 0 0x40)
  pub k9 : (machine_step (machine_with 1 (cpu_with 0 0 7 0) (0x3F ∷ 0x00 ∷ 0x10 ∷ []))).state.cpu.psu ≡ 0
  pub k12 : machine_step (machine_with 1 (cpu_with 0 5 0 0) (0x70 ∷ [])) ≡ machine_with 3 (cpu_with 0 5 0 0) (0x70 ∷ [])

pub worked_steps : WorkedSteps
unfolding step_definitions
worked_steps = record { k1 = refl; k2 = refl; k3 = refl; k4 = refl; k5 = refl; k5_unsigned = refl; k6 = refl; k7 = refl; k8 = refl; k9 = refl; k12 = refl }

-- the same machine with its first n bytes locked
abbrev with_locked : ℕ → Machine → Machine
with_locked n m = record { state = m.state; locked = n; window = m.window; input = m.input; output = m.output }

-- STRA and LODA at address 5: 4 and the index R1, which is stepped from 0 to 1. R0 is the data
abbrev storing : List ℕ
storing = 0xCD ∷ 0x20 ∷ 0x04 ∷ 0 ∷ 0 ∷ 0 ∷ []

abbrev stored : List ℕ
stored = 0xCD ∷ 0x20 ∷ 0x04 ∷ 0 ∷ 0 ∷ 0xA7 ∷ []

abbrev loading : List ℕ
loading = 0x0D ∷ 0x20 ∷ 0x04 ∷ 0 ∷ 0 ∷ 0xA7 ∷ []

abbrev index_stepped : Cpu → Cpu
index_stepped cpu = with_register cpu 1 1

pub record LockedSteps : Type 0 where
  -- at n the byte is stored
  pub at_lock : machine_step (with_locked 5 (machine_with 1 (cpu_with 0 0xA7 0 0) storing)) ≡ with_locked 5 (machine_with 1 (index_stepped (cpu_with 3 0xA7 0 0)) stored)
  -- below n nothing is done, and the index is not stepped
  pub below_lock : machine_step (with_locked 6 (machine_with 1 (cpu_with 0 0xA7 0 0) storing)) ≡ with_locked 6 (machine_with 8 (cpu_with 0 0xA7 0 0) storing)
  -- a byte that is there already is not stored either
  pub same_byte : machine_step (with_locked 6 (machine_with 1 (cpu_with 0 0xA7 0 0) stored)) ≡ with_locked 6 (machine_with 8 (cpu_with 0 0xA7 0 0) stored)
  -- fetches and reads below n are free
  pub read_free : machine_step (with_locked 6 (machine_with 1 (cpu_with 0 0 0 0) loading)) ≡ with_locked 6 (machine_with 1 (index_stepped (cpu_with 3 0xA7 0 0x80)) loading)

pub locked_steps : LockedSteps
unfolding step_definitions
locked_steps = record { at_lock = refl; below_lock = refl; same_byte = refl; read_free = refl }
