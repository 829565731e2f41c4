-- Laws that the checker has shown: what the filler 00h does (document 02, U4).
use Rattle.std.specs.Prelude.{◌≡◌, ℕ, zero, suc, ◌+◌, ◌*◌, ◌/◌, ◌%◌, ◌≤◌, Some}
use Rattle.std.proofs.Common.{ap, ◌∙◌, arith}
use Rattle.std.proofs.lemmas.List.{set-get_or}
use Rattle.alu.specs.Alu.{condition_code_of}
use Rattle.alu.specs.Psl.{with_cc}
use Rattle.common.specs.Choice.{when◌then◌else◌}
use Rattle.common.specs.Repetition.{times}
use Rattle.common.specs.declared.places.Address.{Address}
use Rattle.steps.specs.Address.{add_in_page, fetch_of}
use Rattle.registers.specs.Cpu.{counter_of, psl_of, register_index, register_of, with_counter, with_psl}
use Rattle.cpu.specs.Machine.{Machine, machine_step, with_state}
use Rattle.steps.specs.Result.{address_after}
use Rattle.registers.specs.State.{with_cpu}
use Rattle.cpu.specs.StepDefinitions.{step_definitions}
use Rattle.registers.specs.declared.cpu.Cpu.{Cpu}

-- a Cpu behind k bytes of filler: the counter k further within its page, CC by R0, and all else left
abbrev pub behind_filler : ℕ → Cpu → Cpu
behind_filler k cpu = with_counter (with_psl cpu (with_cc (psl_of cpu) (condition_code_of (register_of cpu 0)))) (address_after cpu k)

-- a machine with its Cpu so, and all else left
abbrev pub machine_behind_filler : ℕ → Machine → Machine
machine_behind_filler k m = with_state (with_cpu (behind_filler k m.state.cpu) m.state) m

-- one step of a running machine at code 00h
pub filler_step : (m : Machine) → m.state.status ≡ 1 → fetch_of m.window (counter_of m.state.cpu) ≡ Some 0
    → machine_step m ≡ machine_behind_filler 1 m
unfolding step_definitions
filler_step m runs code = rw (runs, code, set-get_or m.state.cpu.registers 0 0)

-- none further within the page, and one further than k
page_none_further : (a : Address) → add_in_page a 0 ≡ a
page_none_further a = let e : a.0 / 8192 * 8192 + (a.0 % 8192 + 0) % 8192 ≡ a.0 = omega arith in λ i. record { 0 = e i }

page_one_further : (a : Address) (k : ℕ) → add_in_page (add_in_page a k) 1 ≡ add_in_page a (suc k)
page_one_further a k = λ i. record { 0 = in_page (a.0 / 8192) (a.0 % 8192) k i }
  where
    in_page : (p q k : ℕ) → (p * 8192 + (q + k) % 8192) / 8192 * 8192 + ((p * 8192 + (q + k) % 8192) % 8192 + 1) % 8192 ≡ p * 8192 + (q + suc k) % 8192
    in_page p q k = omega arith

-- CC set twice
cc_again : (psl cc : ℕ) → with_cc (with_cc psl cc) cc ≡ with_cc psl cc
cc_again psl cc = let e : (cc * 64 + psl % 64) % 64 ≡ psl % 64 = omega arith in rw e

-- filler behind filler
behind_again : (k : ℕ) (cpu : Cpu) → behind_filler 1 (behind_filler k cpu) ≡ behind_filler (suc k) cpu
unfolding counter_of psl_of register_index register_of with_counter with_psl when◌then◌else◌
behind_again k cpu = λ i. with_counter (with_psl cpu (cc_again (psl_of cpu) (condition_code_of (register_of cpu 0)) i)) (page_one_further (counter_of cpu) k i)

-- k + 1 steps of a running machine through k + 1 bytes 00h, one behind the other within the page
pub filler_steps : (k : ℕ) (m : Machine) → m.state.status ≡ 1
    → ((i : ℕ) → i ≤ k → fetch_of m.window (address_after m.state.cpu i) ≡ Some 0)
    → times (suc k) machine_step m ≡ machine_behind_filler (suc k) m
unfolding times counter_of with_counter with_psl
filler_steps zero m runs zeros = filler_step m runs (rw (page_none_further (counter_of m.state.cpu)) at (zeros 0 (omega arith)))
filler_steps (suc k) m runs zeros =
    ap machine_step (filler_steps k m runs (λ i l. zeros i (omega arith)))
    ∙ filler_step (machine_behind_filler (suc k) m) runs (zeros (suc k) (omega arith))
    ∙ ap (λ (cpu : Cpu). with_state (with_cpu cpu m.state) m) (behind_again (suc k) m.state.cpu)
