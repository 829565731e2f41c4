-- Laws that the checker has shown: every state has its 34 bytes, every 34 bytes are a state, and each way leads back.
use Rattle.std.specs.Prelude.{◌≡◌, refl, List, [], ◌∷◌, ℕ, get_or, length}
use Rattle.std.proofs.Common.{sym, ap, ◌∙◌, arith, take_all}
use Rattle.cpu.specs.CpuInvariantLaws.{CpuShaped}
use Rattle.registers.specs.State.{with_cpu}
use Rattle.registers.specs.declared.state.State.{State}
use Rattle.slices.specs.NumberLaws.{u16_decoded, u16_encoded, u16s_encoded}
use Rattle.slices.specs.PieceLaws.{list_tabulated, part_tabulated, parts_concat}
use Rattle.slices.specs.Slices.{AllBytes, concat, tabulate}
use Rattle.encoding.specs.StateEncoding.{state_length, state_bytes, state_from_bytes, cpu_from_bytes, registers_from_bytes, returns_from_bytes}

-- a state has seven registers and eight return addresses: in the code by their types
abbrev pub StateShaped : State → Type 0
StateShaped s = CpuShaped s.cpu

-- what bytes hold has these lengths
pub state_shaped : (l : List ℕ) → StateShaped (state_from_bytes l)
unfolding state_from_bytes cpu_from_bytes registers_from_bytes returns_from_bytes
state_shaped l = record { registers = refl; returns = refl }

-- a state with its registers and return addresses written out
abbrev state_with_lists : State → List ℕ → List ℕ → State
state_with_lists s registers returns =
    with_cpu (record { counter = s.cpu.counter; registers = registers; psu = s.cpu.psu; psl = s.cpu.psl; returns = returns }) s

abbrev state_by_elements : State → State
state_by_elements s = state_with_lists s (tabulate 7 (λ i. get_or s.cpu.registers i 0)) (tabulate 8 (λ i. get_or s.cpu.returns i 0))

state_by_elements_law : (s : State) → StateShaped s → s ≡ state_by_elements s
state_by_elements_law s h =
    λ j. state_with_lists s (list_tabulated 7 s.cpu.registers h.registers j) (list_tabulated 8 s.cpu.returns h.returns j)

state_by_elements_length : (s : State) → length (state_bytes (state_by_elements s)) ≡ state_length
unfolding state_bytes
state_by_elements_length s = refl

pub state_length_law : (s : State) → StateShaped s → length (state_bytes s) ≡ state_length
state_length_law s h = ap (λ (z : State). length (state_bytes z)) (state_by_elements_law s h) ∙ state_by_elements_length s

state_by_elements_back : (s : State) → state_from_bytes (state_bytes (state_by_elements s)) ≡ state_by_elements s
unfolding state_bytes state_from_bytes cpu_from_bytes registers_from_bytes returns_from_bytes
state_by_elements_back s =
    λ j.
    record {
      cpu =
          record {
            counter = u16_decoded s.cpu.counter [] j;
            registers = tabulate 7 (λ i. get_or s.cpu.registers i 0);
            psu = s.cpu.psu;
            psl = s.cpu.psl;
            returns = tabulate 8 (λ i. u16_decoded (get_or s.cpu.returns i 0) [] j);
          };
      status = s.status;
      filled = u16_decoded s.filled [] j;
      read = u16_decoded s.read [] j;
      written = u16_decoded s.written [] j;
    }

-- a state's bytes hold that state
pub state_decoded : (s : State) → StateShaped s → state_from_bytes (state_bytes s) ≡ s
state_decoded s h = ap (λ (t : State). state_from_bytes (state_bytes t)) (state_by_elements_law s h) ∙ state_by_elements_back s ∙ sym (state_by_elements_law s h)

-- so many bytes are those of the state that they hold
pub state_encoded : (l : List ℕ) → length l ≡ state_length → AllBytes l → state_bytes (state_from_bytes l) ≡ l
unfolding state_bytes state_from_bytes cpu_from_bytes registers_from_bytes returns_from_bytes
state_encoded l h small =
    (λ j.
    concat (
    u16_encoded l small 0 (omega arith) j
    ∷ part_tabulated 7 l 2 (omega arith) j
    ∷ part_tabulated 1 l 9 (omega arith) j
    ∷ part_tabulated 1 l 10 (omega arith) j
    ∷ u16s_encoded l small 8 11 (omega arith) j
    ∷ part_tabulated 1 l 27 (omega arith) j
    ∷ u16_encoded l small 28 (omega arith) j
    ∷ u16_encoded l small 30 (omega arith) j
    ∷ u16_encoded l small 32 (omega arith) j
    ∷ []
    ))
    ∙ parts_concat l 0 (2 ∷ 7 ∷ 1 ∷ 1 ∷ 16 ∷ 1 ∷ 2 ∷ 2 ∷ 2 ∷ [])
    ∙ take_all state_length l (omega arith)
