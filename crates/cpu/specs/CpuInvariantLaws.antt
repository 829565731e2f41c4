-- Laws that the checker has shown: two invariants. A step keeps a sound Cpu sound, and as many registers and return addresses as there are.
use Rattle.std.specs.Prelude.{◌≡◌, ℕ, zero, suc, ◌+◌, ◌*◌, ◌/◌, ◌%◌, ◌<◌, List, [], ◌∷◌, length, slice_index, slice_set}
use Rattle.std.proofs.Common.{◌∙◌, arith, length-set}
use Rattle.cpu.specs.InvariantLaws.{Invariant, KeepsInvariants}
use Rattle.registers.specs.Cpu.{with_sp, without_ii, stored_psu}
use Rattle.registers.specs.declared.cpu.Cpu.{Cpu}
use Rattle.registers.specs.CpuDefinitions.{cpu_definitions}

-- what a sound table asks of registers: counter and return addresses of fifteen bits, PSU of its stored bits alone
pub record CpuSound (cpu : Cpu) : Type 0 where
  pub counter : cpu.counter < 32768
  pub psu : stored_psu cpu.psu ≡ cpu.psu
  pub returns : (i : ℕ) → slice_index cpu.returns i < 32768

stored_parts : (h sp : ℕ) → h < 4 → sp < 8 → stored_psu (h * 32 + sp) ≡ h * 32 + sp
stored_parts h sp p q = omega arith

stack_stored : (psu sp : ℕ) → sp < 8 → stored_psu psu ≡ psu → stored_psu (with_sp psu sp) ≡ with_sp psu sp
stack_stored psu sp h e = let f : psu / 8 * 8 ≡ psu / 32 % 4 * 32 = omega arith in rw f (stored_parts (psu / 32 % 4) sp (omega arith) h)

cleared_stored : (psu : ℕ) → stored_psu psu ≡ psu → stored_psu (without_ii psu) ≡ without_ii psu
cleared_stored psu e =
    let l : psu < 128 = omega arith in
    let x : psu / 64 * 64 ≡ psu / 64 % 2 * 2 * 32 = omega arith in
    let y : psu % 32 ≡ psu % 8 = omega arith in
    rw (x, y) (stored_parts (psu / 64 % 2 * 2) (psu % 8) (omega arith) (omega arith))

set_fifteen_bits : (l : List ℕ) (j v : ℕ) → v < 32768 → ((i : ℕ) → slice_index l i < 32768) → (i : ℕ) → slice_index (slice_set l j v) i < 32768
set_fifteen_bits [] j v h k i = k i
set_fifteen_bits (x ∷ xs) zero v h k zero = h
set_fifteen_bits (x ∷ xs) zero v h k (suc i) = k (suc i)
set_fifteen_bits (x ∷ xs) (suc j) v h k zero = k zero
set_fifteen_bits (x ∷ xs) (suc j) v h k (suc i) = set_fifteen_bits xs j v h (λ n. k (suc n)) i

sound_invariant : Invariant
unfolding cpu_definitions
sound_invariant =
    record {
      OfCpu = CpuSound;
      OfAddress = λ a. a.0 < 32768;
      OfPsu = λ v. stored_psu v ≡ v;
      counter = λ cpu s. s.counter;
      return_address = λ cpu sp s. s.returns sp;
      psu = λ cpu s. s.psu;
      in_page = λ a k h. omega arith;
      wrapping = λ a k. omega arith;
      from_bytes = λ high low. omega arith;
      stored_psu_law = λ v. omega arith;
      with_sp_law = stack_stored;
      without_ii_law = cleared_stored;
      with_counter_law = λ cpu a h s. record { counter = h; psu = s.psu; returns = s.returns };
      with_register_law = λ cpu r v s. record { counter = s.counter; psu = s.psu; returns = s.returns };
      with_psu_law = λ cpu v h s. record { counter = s.counter; psu = h; returns = s.returns };
      with_psl_law = λ cpu v s. record { counter = s.counter; psu = s.psu; returns = s.returns };
      with_return_law = λ cpu sp a h s. record { counter = s.counter; psu = s.psu; returns = set_fifteen_bits cpu.returns sp a.0 h s.returns };
    }

pub keeps_sound : {cpu next : Cpu} → KeepsInvariants cpu next → CpuSound cpu → CpuSound next
unfolding sound_invariant
keeps_sound k s = k sound_invariant s

-- what the arrays of a Cpu are as lists: seven registers and eight return addresses
pub record CpuShaped (cpu : Cpu) : Type 0 where
  pub registers : length cpu.registers ≡ 7
  pub returns : length cpu.returns ≡ 8

-- it asks nothing of an address, and nothing of PSU
shape_invariant : Invariant
unfolding cpu_definitions
shape_invariant =
    record {
      OfCpu = CpuShaped;
      OfAddress = λ a. Unit {0};
      OfPsu = λ v. Unit {0};
      counter = λ cpu s. tt;
      return_address = λ cpu sp s. tt;
      psu = λ cpu s. tt;
      in_page = λ a k h. tt;
      wrapping = λ a k. tt;
      from_bytes = λ high low. tt;
      stored_psu_law = λ v. tt;
      with_sp_law = λ v sp h q. tt;
      without_ii_law = λ v q. tt;
      with_counter_law = λ cpu a h s. record { registers = s.registers; returns = s.returns };
      with_register_law = λ cpu r v s. record { registers = length-set cpu.registers _ v ∙ s.registers; returns = s.returns };
      with_psu_law = λ cpu v h s. record { registers = s.registers; returns = s.returns };
      with_psl_law = λ cpu v s. record { registers = s.registers; returns = s.returns };
      with_return_law = λ cpu sp a h s. record { registers = s.registers; returns = length-set cpu.returns sp a.0 ∙ s.returns };
    }

pub keeps_shaped : {cpu next : Cpu} → KeepsInvariants cpu next → CpuShaped cpu → CpuShaped next
unfolding shape_invariant
keeps_shaped k s = k shape_invariant s
