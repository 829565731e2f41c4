-- What is compared as a whole with the partition, or the state, of an empty slot is tested part by part.
use Rattle.std.specs.Prelude.{ℕ, zero, suc, Bool, true, false, ◌&&◌, List, [], ◌∷◌, ◌≡◌, eqb, length, replicate}
use Rattle.std.specs.List.{list_all}
use Rattle.std.proofs.Common.{sym, ap, ◌∙◌, arith}
use Rattle.std.proofs.Math.Path.{refl}
use lib.Pointwise.{pointwise}
use Rattle.common.specs.Tests.{all}
use Rattle.common.specs.TestLaws.{and_fact, and_test, all_fact, all_test}
use Rattle.registers.specs.declared.state.State.{State}
use Rattle.common.specs.AllBelowLaws.{each_listed}
use Rattle.table.specs.Sound.{all_zero, is_zero_partition, is_zero_state}
use Rattle.table.specs.declared.table.Partition.{Partition}

same_test : (a b : Bool) → (a ≡ true → b ≡ true) → (b ≡ true → a ≡ true) → a ≡ b
same_test true true f g = refl
same_test true false f g = sym (f refl)
same_test false true f g = g refl
same_test false false f g = refl

-- ---- a list of zeros

zeros_each : (l : List ℕ) (n : ℕ) → length l ≡ n → pointwise eqb l (replicate n 0) ≡ list_all (λ x. eqb x 0) l
zeros_each [] zero e = refl
zeros_each [] (suc n) e = absurd (omega arith)
zeros_each (x ∷ xs) zero e = absurd (omega arith)
zeros_each (x ∷ xs) (suc n) e = ap (λ (b : Bool). eqb x 0 && b) (zeros_each xs n (omega arith))

zeros_listed : (l : List ℕ) (n : ℕ) → length l ≡ n → pointwise eqb l (replicate n 0) ≡ all_zero l
unfolding all_zero
zeros_listed l n e = zeros_each l n e ∙ each_listed (λ x. eqb x 0) 0 l (length l) refl

-- ---- an empty slot's parts

partition_tests : (b w i o l q : Bool) → (b && ((w && (i && (o && l))) && q)) ≡ all (b ∷ w ∷ i ∷ o ∷ l ∷ q ∷ [])
partition_tests b w i o l q = same_test _ _ there back
  where
    there : (b && ((w && (i && (o && l))) && q)) ≡ true → all (b ∷ w ∷ i ∷ o ∷ l ∷ q ∷ []) ≡ true
    there h =
        let base = and_fact _ _ h in
        let both = and_fact _ _ base.1 in
        let window = and_fact _ _ both.0 in
        let input = and_fact _ _ window.1 in
        let output = and_fact _ _ input.1 in
        all_test _ (base.0, (window.0, (input.0, (output.0, (output.1, (both.1, tt))))))

    back : all (b ∷ w ∷ i ∷ o ∷ l ∷ q ∷ []) ≡ true → (b && ((w && (i && (o && l))) && q)) ≡ true
    back h =
        let (base, (window, (input, (output, (locked, (quantum, _)))))) = all_fact (b ∷ w ∷ i ∷ o ∷ l ∷ q ∷ []) h in
        and_test _ _ base (and_test _ _ (and_test _ _ window (and_test _ _ input (and_test _ _ output locked))) quantum)

pub zero_partition_tests : (p : Partition)
    → (eqb p.base.0 0
    && ((eqb p.layout.window 0 && (eqb p.layout.input 0 && (eqb p.layout.output 0 && eqb p.layout.locked 0))) && eqb p.quantum 0))
    ≡ is_zero_partition p
unfolding is_zero_partition
zero_partition_tests p = partition_tests _ _ _ _ _ _

state_tests : (c r u l t s f e w : Bool) → ((c && (r && (u && (l && t)))) && (s && (f && (e && w)))) ≡ all (s ∷ f ∷ e ∷ w ∷ c ∷ u ∷ l ∷ r ∷ t ∷ [])
state_tests c r u l t s f e w = same_test _ _ there back
  where
    there : ((c && (r && (u && (l && t)))) && (s && (f && (e && w)))) ≡ true → all (s ∷ f ∷ e ∷ w ∷ c ∷ u ∷ l ∷ r ∷ t ∷ []) ≡ true
    there h =
        let both = and_fact _ _ h in
        let counter = and_fact _ _ both.0 in
        let registers = and_fact _ _ counter.1 in
        let psu = and_fact _ _ registers.1 in
        let psl = and_fact _ _ psu.1 in
        let status = and_fact _ _ both.1 in
        let filled = and_fact _ _ status.1 in
        let read = and_fact _ _ filled.1 in
        all_test _ (status.0, (filled.0, (read.0, (read.1, (counter.0, (psu.0, (psl.0, (registers.0, (psl.1, tt)))))))))

    back : all (s ∷ f ∷ e ∷ w ∷ c ∷ u ∷ l ∷ r ∷ t ∷ []) ≡ true → ((c && (r && (u && (l && t)))) && (s && (f && (e && w)))) ≡ true
    back h =
        let (status, (filled, (read, (written, (counter, (psu, (psl, (registers, (returns, _))))))))) = all_fact (s ∷ f ∷ e ∷ w ∷ c ∷ u ∷ l ∷ r ∷ t ∷ []) h in
        and_test _ _ (and_test _ _ counter (and_test _ _ registers (and_test _ _ psu (and_test _ _ psl returns))))
        (and_test _ _ status (and_test _ _ filled (and_test _ _ read written)))

pub zero_state_tests : (s : State) → length s.cpu.registers ≡ 7 → length s.cpu.returns ≡ 8
    → ((eqb s.cpu.counter 0
    && (pointwise eqb s.cpu.registers (replicate 7 0) && (eqb s.cpu.psu 0 && (eqb s.cpu.psl 0 && pointwise eqb s.cpu.returns (replicate 8 0)))))
    && (eqb s.status 0 && (eqb s.filled 0 && (eqb s.read 0 && eqb s.written 0))))
    ≡ is_zero_state s
unfolding is_zero_state
zero_state_tests s seven eight =
    rw (zeros_listed s.cpu.registers 7 seven, zeros_listed s.cpu.returns 8 eight)
    (state_tests (eqb s.cpu.counter 0) (all_zero s.cpu.registers) (eqb s.cpu.psu 0) (eqb s.cpu.psl 0) (all_zero s.cpu.returns)
    (eqb s.status 0) (eqb s.filled 0) (eqb s.read 0) (eqb s.written 0))
