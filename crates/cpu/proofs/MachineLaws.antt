-- Laws that the checker has shown: what a step of the lone machine keeps. A layer above cites these, and no definition's text.
use Rattle.std.specs.Prelude.{◌≡◌, ℕ, zero, suc, ◌<◌, ◌≤◌, Bool, length, take, ◌≢◌}
use Rattle.std.proofs.Math.Path.{refl}
use Rattle.std.proofs.Common.{subst, ◌∙◌}
use native.Mathlib.Omega.{arith}
use borrow.Author.Tests.{ltb-true, ltb-false, leb-true, leb-false}
use Rattle.std.proofs.Math.ListN.{length-set}
use Rattle.std.proofs.lemmas.List.{take-set-le}
use Rattle.cpu.specs.Instruction.{instruction_step}
use Rattle.cpu.specs.Machine.{Machine, ports_of, with_effect, after_step, machine_step}
use Rattle.registers.specs.State.{last_status}
use Rattle.common.specs.Repetition.{times}
use Rattle.steps.specs.Result.{StepResult}
use Rattle.cpu.specs.InvariantLaws.{KeepsInvariants}
use Rattle.cpu.specs.CpuInvariantLaws.{keeps_sound, CpuShaped, keeps_shaped}
use Rattle.cpu.proofs.StepLaws.{step_ends}
use Rattle.cpu.specs.Endings.{Ending, continues, halts, stores, takes_input, puts_output, wants_input, finds_full, finds_locked, stops}
use Rattle.common.specs.ChoiceLaws.{if_all}
use Rattle.cpu.specs.MachineKept.{SameSizes, SameLockedBytes, MachineSound, at_status}

-- what a step that is made leaves
record StepLeaves (m n : Machine) : Type 1 where
  sizes : SameSizes m n
  locked : SameLockedBytes m n
  keeps : KeepsInvariants m.state.cpu n.state.cpu
  sound : MachineSound m → MachineSound n
  undone : 3 ≤ n.state.status → n ≡ at_status n.state.status m

module _ (m : Machine) where
  -- a step that is carried out ends at status 1 or 2
  carried_out : (n : Machine) → SameSizes m n → SameLockedBytes m n → n.state.filled ≡ m.state.filled → 1 ≤ n.state.status → n.state.status < 3 → KeepsInvariants m.state.cpu n.state.cpu → (m.state.read ≤ m.state.filled → n.state.read ≤ m.state.filled) → (m.state.written ≤ length m.output → n.state.written ≤ length m.output) → StepLeaves m n
  carried_out n z b f l h k r w =
      let i = z.input in
      let o = z.output in
      record {
        sizes = z;
        locked = b;
        keeps = k;
        sound = λ s.
            let a = s.filled in
            let b : n.state.read ≤ m.state.filled = r s.read in
            let c : n.state.written ≤ length m.output = w s.written in
            record { cpu = keeps_sound k s.cpu; filled = omega arith; read = omega arith; written = omega arith; least = l; most = omega arith; wants_input = λ e. absurd (omega arith); full = λ e. absurd (omega arith) };
        undone = λ e. absurd (omega arith);
      }

  -- one that is undone leaves all but the status
  left_undone : (n : ℕ) → 1 ≤ n → n ≤ last_status → (n ≡ 3 → m.state.filled ≤ m.state.read) → (n ≡ 4 → length m.output ≤ m.state.written) → StepLeaves m (at_status n m)
  left_undone n l h w f =
      record {
        sizes = record { locked = refl; window = refl; input = refl; output = refl };
        locked = refl;
        keeps = λ i s. s;
        sound = λ s.
            let r = s.read in
            let o = s.written in
            record {
              cpu = s.cpu;
              filled = s.filled;
              read = r;
              written = o;
              least = l;
              most = h;
              wants_input = λ e. let x : m.state.filled ≤ m.state.read = w e in omega arith;
              full = λ e. let x : length m.output ≤ m.state.written = f e in omega arith;
            };
        undone = λ e. refl;
      }

  ending_leaves : {wrtd : Bool} {s : StepResult} → Ending m.state.cpu m.window m.locked (ports_of m) wrtd s → StepLeaves m (after_step s m)
  unfolding with_effect
  ending_leaves (continues next k) = carried_out _ (record { locked = refl; window = refl; input = refl; output = refl }) refl refl (omega arith) (omega arith) k (λ r. r) (λ w. w)
  ending_leaves (halts next k) = carried_out _ (record { locked = refl; window = refl; input = refl; output = refl }) refl refl (omega arith) (omega arith) k (λ r. r) (λ w. w)
  ending_leaves (stores next a v k l h) =
      carried_out _ (record { locked = refl; window = length-set m.window a.0 v; input = refl; output = refl }) (take-set-le m.locked m.window a.0 v l) refl (omega arith) (omega arith) k (λ r. r) (λ w. w)
  ending_leaves (takes_input next k h) = carried_out _ (record { locked = refl; window = refl; input = refl; output = refl }) refl refl (omega arith) (omega arith) k (λ r. let x : m.state.read < m.state.filled = ltb-true _ _ h in omega arith) (λ w. w)
  ending_leaves (puts_output next v k h) =
      carried_out _ (record { locked = refl; window = refl; input = refl; output = length-set m.output m.state.written v }) refl refl (omega arith) (omega arith) k (λ r. r) (λ w.
      let x : m.state.written < length m.output = leb-false _ _ h in omega arith)
  ending_leaves (wants_input h) = left_undone 3 (omega arith) (omega arith) (λ e. ltb-false _ _ h) (λ e. absurd (omega arith))
  ending_leaves (finds_full h) = left_undone 4 (omega arith) (omega arith) (λ e. absurd (omega arith)) (λ e. leb-true _ _ h)
  ending_leaves (finds_locked a l h) = left_undone 8 (omega arith) (omega arith) (λ e. absurd (omega arith)) (λ e. absurd (omega arith))
  ending_leaves (stops n l h) = left_undone n (omega arith) (omega arith) (λ e. absurd (omega arith)) (λ e. absurd (omega arith))

  step_leaves : StepLeaves m (after_step (instruction_step m.state.cpu m.window m.locked (ports_of m)) m)
  step_leaves = ending_leaves (step_ends m.state.cpu m.window m.locked (ports_of m))

  -- a step keeps the lengths of window and buffers
  pub step_sizes : SameSizes m (machine_step m)
  unfolding machine_step
  step_sizes = if_all (SameSizes m) (λ e. step_leaves.sizes) (λ e. record { locked = refl; window = refl; input = refl; output = refl })

  -- a step leaves the bytes below the lock
  pub step_locked : SameLockedBytes m (machine_step m)
  unfolding machine_step
  step_locked = if_all (SameLockedBytes m) (λ e. step_leaves.locked) (λ e. refl)

  -- a step keeps every invariant of the state
  pub step_keeps : KeepsInvariants m.state.cpu (machine_step m).state.cpu
  unfolding machine_step
  step_keeps i s = if_all (λ (n : Machine). i.OfCpu n.state.cpu) (λ e. step_leaves.keeps i s) (λ e. s)

  -- a step keeps a sound machine sound
  pub step_sound : MachineSound m → MachineSound (machine_step m)
  unfolding machine_step
  step_sound s = if_all MachineSound (λ e. step_leaves.sound s) (λ e. s)

  -- only a store below the lock ends at status 8: where nothing is locked, no step does
  ending_unlocked : m.locked ≡ 0 → {wrtd : Bool} {s : StepResult} → Ending m.state.cpu m.window m.locked (ports_of m) wrtd s → (after_step s m).state.status ≢ 8
  unfolding with_effect
  ending_unlocked none (continues next k) e = omega arith
  ending_unlocked none (halts next k) e = omega arith
  ending_unlocked none (stores next a v k l h) e = omega arith
  ending_unlocked none (takes_input next k h) e = omega arith
  ending_unlocked none (puts_output next v k h) e = omega arith
  ending_unlocked none (wants_input h) e = omega arith
  ending_unlocked none (finds_full h) e = omega arith
  ending_unlocked none (finds_locked a l h) e = omega arith
  ending_unlocked none (stops n l h) e = omega arith

  pub step_unlocked : m.locked ≡ 0 → (machine_step m).state.status ≡ 8 → m.state.status ≡ 8
  unfolding machine_step
  step_unlocked none =
      if_all (λ (n : Machine). n.state.status ≡ 8 → m.state.status ≡ 8)
      (λ e h. absurd (ending_unlocked none (step_ends m.state.cpu m.window m.locked (ports_of m)) h))
      (λ e h. h)

  -- a step that ends at a status from 3 on changes nothing but the status
  pub step_undone : 3 ≤ (machine_step m).state.status → machine_step m ≡ at_status (machine_step m).state.status m
  unfolding machine_step
  step_undone = if_all (λ (n : Machine). 3 ≤ n.state.status → n ≡ at_status n.state.status m) (λ e. step_leaves.undone) (λ e h. refl)

-- the same of many steps
pub times_sizes : (n : ℕ) (m : Machine) → SameSizes m (times n machine_step m)
unfolding times
times_sizes zero m = record { locked = refl; window = refl; input = refl; output = refl }
times_sizes (suc n) m =
    let x = step_sizes (times n machine_step m) in
    let y = times_sizes n m in
    record { locked = x.locked ∙ y.locked; window = x.window ∙ y.window; input = x.input ∙ y.input; output = x.output ∙ y.output }

pub times_locked : (n : ℕ) (m : Machine) → SameLockedBytes m (times n machine_step m)
unfolding times
times_locked zero m = refl
times_locked (suc n) m =
    let now : Machine = times n machine_step m in
    subst (λ (k : ℕ). take k (machine_step now).window ≡ take k now.window) (times_sizes n m).locked (step_locked now) ∙ times_locked n m

pub times_unlocked : (n : ℕ) (m : Machine) → m.locked ≡ 0 → (times n machine_step m).state.status ≡ 8 → m.state.status ≡ 8
unfolding times
times_unlocked zero m none h = h
times_unlocked (suc n) m none h =
    times_unlocked n m none (step_unlocked (times n machine_step m) ((times_sizes n m).locked ∙ none) h)

pub times_sound : (n : ℕ) (m : Machine) → MachineSound m → MachineSound (times n machine_step m)
unfolding times
times_sound zero m s = s
times_sound (suc n) m s = step_sound (times n machine_step m) (times_sound n m s)

pub times_keeps : (n : ℕ) (m : Machine) → KeepsInvariants m.state.cpu (times n machine_step m).state.cpu
unfolding times
times_keeps zero m i s = s
times_keeps (suc n) m i s = step_keeps (times n machine_step m) i (times_keeps n m i s)

-- seven registers and eight return addresses stay so many
pub times_shaped : (n : ℕ) (m : Machine) → CpuShaped m.state.cpu → CpuShaped (times n machine_step m).state.cpu
times_shaped n m s = keeps_shaped (times_keeps n m) s
