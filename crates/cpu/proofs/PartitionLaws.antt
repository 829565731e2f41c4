-- A run reads and writes a partition by its bounds: what that is for the lone machine.
use Rattle.std.proofs.Common.{◌≡◌, ℕ, ◌+◌, ◌-◌, ◌%◌, ◌<◌, ◌≤◌, min, Bool, true, false, ltb, leb, List, length, get_or, take, drop, set, sym, refl, ap, ◌∙◌, subst, arith, length-drop, length-take, get_or-drop, take_all, get_or-take, drop-set-lt, ltb-false, ltb-true, le-leb}
use borrow.Author.Tests.{lt-leb}
use lib.ListN.{get_or-eq_default}
use lib.Seq.{take-set-le, take-set-lt, drop-set-add, set_out}
use Rattle.common.specs.Choice.{when◌then◌else◌}
use Rattle.common.specs.Layout.{layout_size}
use Rattle.registers.specs.PackedCpu.{cpu_of}
use Rattle.steps.specs.PackedStep.{effect_of, step_result_of}
use Rattle.cpu.specs.Instruction.{instruction_step}
use Rattle.registers.specs.State.{with_cpu, with_status, with_read, with_written}
use Rattle.cpu.specs.Machine.{machine_of, ports_of, with_effect, after_step, machine_step}
use Rattle.cpu.specs.Partition.{BoundsHold, BoundsInside, bounds_of, machine_by_bounds, port_view_of, PartitionAfter, partition_after, apply_effect_of}
use Rattle.cpu.specs.Port.{Ports}
use Rattle.steps.specs.Result.{StepResult}
use Rattle.cpu.proofs.StepLaws.{step_ends, ending_allowed}
use Rattle.cpu.specs.Endings.{EffectAllowed}
use Rattle.cpu.specs.RestLaws.{step_runs}
use Rattle.registers.specs.declared.packed_cpu.PackedCpu.{PackedCpu}
use Rattle.common.specs.declared.layout.Layout.{Layout}
use Rattle.registers.specs.declared.state.State.{State}
use Rattle.cpu.specs.declared.partition.Bounds.{Bounds}
use Rattle.cpu.specs.declared.partition.Positions.{Positions}
use Rattle.steps.specs.declared.result.PackedStep.{PackedStep}
use Rattle.steps.specs.declared.result.PackedEffect.{PackedEffect}
use Rattle.steps.specs.declared.result.PackedEffect.TheVariants.{Nothing, Store, Take, Put}
use Rattle.registers.specs.declared.cpu.Cpu.{Cpu}

pub bounds_inside : (b : Bounds) (n : ℕ) → BoundsHold b n → BoundsInside b n
bounds_inside b n p =
    let d1 = p.window_end in
    let d2 = p.input_end in
    let d3 = p.output_end in
    let d4 = p.input_start in
    let d5 = p.input_size in
    let d6 = p.output_size in
    record {
      window_end = omega arith;
      input_end = omega arith;
      output_end = omega arith;
      input_start = omega arith;
      output_start = omega arith;
      output_size = omega arith;
      filled = p.filled;
    }

-- a part that is cut at the end of the bytes
take_cut : (n m : ℕ) (l : List ℕ) → m ≡ min n (length l) → (t : Bool) → ltb n (length l) ≡ t → take m l ≡ take n l
take_cut n m l e true h = let g : n < length l = ltb-true _ _ h in let d : m ≡ n = omega arith in rw d
take_cut n m l e false h = let g : length l ≤ n = ltb-false _ _ h in let d : length l ≤ m = omega arith in take_all m l d ∙ sym (take_all n l g)

cut_length : (n m : ℕ) (l : List ℕ) → length (take n (drop m l)) ≡ min n (length l - m)
cut_length n m l = length-take n (drop m l) ∙ ap (λ (k : ℕ). min n k) (length-drop m l)

-- the next input byte, read from the front of the partition
byte_law : (b : Bounds) (k : Positions) (l : List ℕ) → BoundsHold b (length l) → (t : Bool) → ltb (b.input_start + k.read) b.input_end ≡ t → get_or (take b.input_end l) (b.input_start + k.read) 0 ≡ get_or (take (b.output_start - b.input_start) (drop b.input_start l)) k.read 0
byte_law b k l p true h =
    let g : b.input_start + k.read < b.input_end = ltb-true _ _ h in
    let d = p.input_end in
    let e : k.read < b.output_start - b.input_start = omega arith in
    get_or-take b.input_end l (b.input_start + k.read) 0 g ∙ sym (get_or-take (b.output_start - b.input_start) (drop b.input_start l) k.read 0 e ∙ get_or-drop b.input_start l k.read 0)
byte_law b k l p false h =
    let g : b.input_end ≤ b.input_start + k.read = ltb-false _ _ h in
    let d = p.input_end in
    let f = p.output_start in
    let e : length (take (b.output_start - b.input_start) (drop b.input_start l)) ≡ min (b.output_start - b.input_start) (length l - b.input_start) = cut_length (b.output_start - b.input_start) b.input_start l in
    let x : length (take (b.output_start - b.input_start) (drop b.input_start l)) ≤ k.read = omega arith in
    let w : length (take b.input_end l) ≡ min b.input_end (length l) = length-take b.input_end l in
    let y : length (take b.input_end l) ≤ b.input_start + k.read = omega arith in
    get_or-eq_default (take b.input_end l) 0 {n = b.input_start + k.read} y ∙ sym (get_or-eq_default (take (b.output_start - b.input_start) (drop b.input_start l)) 0 {n = k.read} x)

output_full_law : (b : Bounds) (k : Positions) (l : List ℕ) → BoundsHold b (length l) → (t : Bool) → ltb (b.output_start + k.written) b.output_end ≡ t → leb b.output_end (b.output_start + k.written) ≡ leb (length (take (b.end - b.output_start) (drop b.output_start l))) k.written
output_full_law b k l p true h =
    let g : b.output_start + k.written < b.output_end = ltb-true _ _ h in
    let d = p.output_end in
    let e : length (take (b.end - b.output_start) (drop b.output_start l)) ≡ min (b.end - b.output_start) (length l - b.output_start) = cut_length (b.end - b.output_start) b.output_start l in
    let x : k.written < length (take (b.end - b.output_start) (drop b.output_start l)) = omega arith in
    lt-leb _ _ g ∙ sym (lt-leb _ _ x)
output_full_law b k l p false h =
    let g : b.output_end ≤ b.output_start + k.written = ltb-false _ _ h in
    let d = p.output_end in
    let f = p.end in
    let e : length (take (b.end - b.output_start) (drop b.output_start l)) ≡ min (b.end - b.output_start) (length l - b.output_start) = cut_length (b.end - b.output_start) b.output_start l in
    let x : length (take (b.end - b.output_start) (drop b.output_start l)) ≤ k.written = omega arith in
    le-leb _ _ g ∙ sym (le-leb _ _ x)

ports_law : (given : State) (b : Bounds) (c : Cpu) (s : ℕ) (k : Positions) (l : List ℕ) → BoundsHold b (length l) → port_view_of b k l ≡ ports_of (machine_by_bounds given b c s k l)
unfolding port_view_of machine_by_bounds
ports_law given b c s k l p = rw (byte_law b k l p _ refl, output_full_law b k l p _ refl)

-- an effect on the bytes is the machine's
apply_store : (given : State) (b : Bounds) (c : Cpu) (s : ℕ) (k : Positions) (l : List ℕ) (a v : ℕ) → BoundsHold b (length l) → (t : Bool) → ltb a b.window_end ≡ t → (m : PartitionAfter) → m ≡ apply_effect_of (Store a v) b k l → machine_by_bounds given b c s m.positions m.bytes ≡ with_effect (effect_of (Store a v)) (machine_by_bounds given b c s k l)
unfolding apply_effect_of with_effect machine_by_bounds when◌then◌else◌
apply_store given b c s k l a v p true h m e =
    let g : a < b.window_end = ltb-true _ _ h in
    let d = p.window_end in
    let o = p.output_start in
    let x : a < b.input_start = omega arith in
    let y : a < b.output_start = omega arith in
    rw (e, h, take-set-lt b.input_start l a (v % 256) x, drop-set-lt b.input_start l a (v % 256) x, drop-set-lt b.output_start l a (v % 256) y)
apply_store given b c s k l a v p false h m e =
    let g : b.window_end ≤ a = ltb-false _ _ h in
    let d = p.window_end in
    let w : length (take b.input_start l) ≡ min b.input_start (length l) = length-take b.input_start l in
    let x : length (take b.input_start l) ≤ a = omega arith in
    rw (e, h, set_out (take b.input_start l) a (v % 256) x)

apply_take : (given : State) (b : Bounds) (c : Cpu) (s : ℕ) (k : Positions) (l : List ℕ) → ltb k.read b.filled ≡ true → (m : PartitionAfter) → m ≡ apply_effect_of Take b k l → machine_by_bounds given b c s m.positions m.bytes ≡ with_effect (effect_of Take) (machine_by_bounds given b c s k l)
unfolding apply_effect_of with_effect machine_by_bounds when◌then◌else◌
apply_take given b c s k l h m e = rw (e, h)

apply_put : (given : State) (b : Bounds) (c : Cpu) (s : ℕ) (k : Positions) (l : List ℕ) (v : ℕ) → BoundsHold b (length l) → ltb (b.output_start + k.written) b.output_end ≡ true → (m : PartitionAfter) → m ≡ apply_effect_of (Put v) b k l → machine_by_bounds given b c s m.positions m.bytes ≡ with_effect (effect_of (Put v)) (machine_by_bounds given b c s k l)
unfolding apply_effect_of with_effect machine_by_bounds when◌then◌else◌
apply_put given b c s k l v p h m e =
    let g : b.output_start + k.written < b.output_end = ltb-true _ _ h in
    let d = p.output_end in
    let o = p.output_start in
    let x : b.input_start ≤ b.output_start + k.written = omega arith in
    let y : b.output_start + k.written ≡ b.input_start + ((b.output_start - b.input_start) + k.written) = omega arith in
    let z : b.output_start - b.input_start ≤ (b.output_start - b.input_start) + k.written = omega arith in
    let q : k.written < b.end - b.output_start = omega arith in
    let one = take-set-le b.input_start l (b.output_start + k.written) (v % 256) x in
    let two : drop b.input_start (set l (b.output_start + k.written) (v % 256)) ≡ set (drop b.input_start l) ((b.output_start - b.input_start) + k.written) (v % 256) =
    ap (λ (j : ℕ). drop b.input_start (set l j (v % 256))) y ∙ drop-set-add b.input_start l ((b.output_start - b.input_start) + k.written) (v % 256) in
    let three = take-set-le (b.output_start - b.input_start) (drop b.input_start l) ((b.output_start - b.input_start) + k.written) (v % 256) z in
    let four = drop-set-add b.output_start l k.written (v % 256) in
    let five = take-set-lt (b.end - b.output_start) (drop b.output_start l) k.written (v % 256) q in
    rw (e, h, one, two, three, four, five)

output_has_room : (b : Bounds) (k : Positions) (l : List ℕ) → BoundsHold b (length l) → leb (length (take (b.end - b.output_start) (drop b.output_start l))) k.written ≡ false → (t : Bool) → ltb (b.output_start + k.written) b.output_end ≡ t → ltb (b.output_start + k.written) b.output_end ≡ true
output_has_room b k l p f true h = h
output_has_room b k l p f false h =
    let i : b.output_end ≤ b.output_start + k.written = ltb-false _ _ h in
    let g : leb b.output_end (b.output_start + k.written) ≡ true = le-leb _ _ i in
    let x : true ≡ false = sym g ∙ output_full_law b k l p false h ∙ f in
    let z : ◌≡◌ {A = ℕ} 0 1 = cc in
    absurd (omega arith)

apply_law : (x : PackedEffect) (given : State) (b : Bounds) (c : Cpu) (s : ℕ) (k : Positions) (l : List ℕ) → BoundsHold b (length l) → EffectAllowed (ports_of (machine_by_bounds given b c s k l)) (effect_of x) → (m : PartitionAfter) → m ≡ apply_effect_of x b k l → machine_by_bounds given b c s m.positions m.bytes ≡ with_effect (effect_of x) (machine_by_bounds given b c s k l)
unfolding apply_effect_of with_effect machine_by_bounds
apply_law Nothing given b c s k l p g m e = rw (e)
apply_law (Store a v) given b c s k l p g m e = apply_store given b c s k l a v p _ refl m e
apply_law Take given b c s k l p g m e = apply_take given b c s k l g m e
apply_law (Put v) given b c s k l p g m e = apply_put given b c s k l v p (output_has_room b k l p g _ refl) m e

-- what lies behind the partition stays
beyond_store : (a v : ℕ) (b : Bounds) (k : Positions) (l : List ℕ) (n : ℕ) → BoundsHold b n → (t : Bool) → ltb a b.window_end ≡ t → drop b.end (apply_effect_of (Store a v) b k l).bytes ≡ drop b.end l
unfolding apply_effect_of when◌then◌else◌
beyond_store a v b k l n p true h =
    let g : a < b.window_end = ltb-true _ _ h in
    let d1 = p.window_end in
    let d2 = p.output_start in
    let d3 = p.end in
    let x : a < b.end = omega arith in
    rw (h, drop-set-lt b.end l a (v % 256) x)
beyond_store a v b k l n p false h = rw (h)

beyond_take : (b : Bounds) (k : Positions) (l : List ℕ) → (t : Bool) → ltb k.read b.filled ≡ t → drop b.end (apply_effect_of Take b k l).bytes ≡ drop b.end l
unfolding apply_effect_of when◌then◌else◌
beyond_take b k l true h = rw (h)
beyond_take b k l false h = rw (h)

beyond_put : (v : ℕ) (b : Bounds) (k : Positions) (l : List ℕ) (n : ℕ) → BoundsHold b n → (t : Bool) → ltb (b.output_start + k.written) b.output_end ≡ t → drop b.end (apply_effect_of (Put v) b k l).bytes ≡ drop b.end l
unfolding apply_effect_of when◌then◌else◌
beyond_put v b k l n p true h =
    let g : b.output_start + k.written < b.output_end = ltb-true _ _ h in
    let d = p.output_end in
    let x : b.output_start + k.written < b.end = omega arith in
    rw (h, drop-set-lt b.end l (b.output_start + k.written) (v % 256) x)
beyond_put v b k l n p false h = rw (h)

beyond_kept : (x : PackedEffect) (b : Bounds) (k : Positions) (l : List ℕ) (n : ℕ) → BoundsHold b n → drop b.end (apply_effect_of x b k l).bytes ≡ drop b.end l
unfolding apply_effect_of
beyond_kept Nothing b k l n p = refl
beyond_kept (Store a v) b k l n p = beyond_store a v b k l n p _ refl
beyond_kept Take b k l n p = beyond_take b k l _ refl
beyond_kept (Put v) b k l n p = beyond_put v b k l n p _ refl

pub beyond_law : (x : PackedEffect) (b : Bounds) (k : Positions) (l : List ℕ) (n : ℕ) → BoundsHold b n → (m : PartitionAfter) → m ≡ apply_effect_of x b k l → drop b.end m.bytes ≡ drop b.end l
beyond_law x b k l n p m e = rw (e) (beyond_kept x b k l n p)

pub bounds_end_law : (z : Layout) (f n : ℕ) (b : Bounds) → b ≡ bounds_of z f n → b.end ≡ layout_size z
unfolding bounds_of
bounds_end_law z f n b e = ap (λ (x : Bounds). x.end) e

-- one iteration of the loop is one step of the machine
packed_after_step : (given : State) (b : Bounds) (c : Cpu) (s : ℕ) (k : Positions) (l : List ℕ) (w : PackedStep) → with_effect (effect_of w.effect) (machine_by_bounds given b (cpu_of w.cpu) w.status k l) ≡ after_step (step_result_of w) (machine_by_bounds given b c s k l)
unfolding machine_by_bounds step_result_of
packed_after_step given b c s k l w = refl

step_by_bounds : (given : State) (b : Bounds) (c : Cpu) (s : ℕ) (k : Positions) (l : List ℕ) → instruction_step c (take b.input_start l) b.locked (ports_of (machine_by_bounds given b c s k l)) ≡ instruction_step (machine_by_bounds given b c s k l).state.cpu (machine_by_bounds given b c s k l).window (machine_by_bounds given b c s k l).locked (ports_of (machine_by_bounds given b c s k l))
unfolding machine_by_bounds
step_by_bounds given b c s k l = refl

allowed_at : (given : State) (b : Bounds) (c c' : Cpu) (s s' : ℕ) (k : Positions) (l : List ℕ) (w : PackedStep) → EffectAllowed (ports_of (machine_by_bounds given b c s k l)) (step_result_of w).effect → EffectAllowed (ports_of (machine_by_bounds given b c' s' k l)) (effect_of w.effect)
unfolding machine_by_bounds step_result_of
allowed_at given b c c' s s' k l w h = h

pub status_at : (given : State) (b : Bounds) (c : Cpu) (s : ℕ) (k : Positions) (l : List ℕ) → (machine_by_bounds given b c s k l).state.status ≡ s
unfolding machine_by_bounds
status_at given b c s k l = refl

pub iteration_steps : (given : State) (b : Bounds) (m : PackedCpu) (s : ℕ) (k : Positions) (l : List ℕ) → BoundsHold b (length l) → s ≡ 1 → (w : PackedStep) → step_result_of w ≡ instruction_step (cpu_of m) (take b.window_end l) b.locked (port_view_of b k l) → (n : Positions) (v : List ℕ) → partition_after n v ≡ apply_effect_of w.effect b k l → machine_by_bounds given b (cpu_of w.cpu) w.status n v ≡ machine_step (machine_by_bounds given b (cpu_of m) s k l)
iteration_steps given b m s k l q e w g n v h =
    let window : take b.window_end l ≡ take b.input_start l = take_cut b.input_start b.window_end l q.window_end _ refl in
    let d : step_result_of w ≡ instruction_step (cpu_of m) (take b.input_start l) b.locked (ports_of (machine_by_bounds given b (cpu_of m) s k l)) =
    g
    ∙ ap (λ (x : List ℕ). instruction_step (cpu_of m) x b.locked (port_view_of b k l)) window
    ∙ ap (λ (x : Ports). instruction_step (cpu_of m) (take b.input_start l) b.locked x) (ports_law given b (cpu_of m) s k l q) in
    let ports = ports_of (machine_by_bounds given b (cpu_of m) s k l) in
    let allowed : EffectAllowed ports (step_result_of w).effect = subst (λ (t : StepResult). EffectAllowed ports t.effect) (sym d) (ending_allowed (step_ends (cpu_of m) (take b.input_start l) b.locked ports)) in
    apply_law w.effect given b (cpu_of w.cpu) w.status k l q (allowed_at given b (cpu_of m) (cpu_of w.cpu) s w.status k l w allowed) (partition_after n v) h
    ∙ packed_after_step given b (cpu_of m) s k l w
    ∙ ap (λ (t : StepResult). after_step t (machine_by_bounds given b (cpu_of m) s k l)) (d ∙ step_by_bounds given b (cpu_of m) s k l)
    ∙ sym (step_runs (machine_by_bounds given b (cpu_of m) s k l) (status_at given b (cpu_of m) s k l ∙ e))

-- the machine by its bounds is the machine by its layout
pub machine_by_bounds_law : (z : Layout) (given s : State) (b : Bounds) (n : ℕ) (k : Positions) (l : List ℕ) → b ≡ bounds_of z given.filled n
    → s ≡ with_written k.written (with_read k.read (with_status s.status (with_cpu s.cpu given))) → machine_by_bounds given b s.cpu s.status k l ≡ machine_of z s l
unfolding bounds_of machine_by_bounds
machine_by_bounds_law z given s b n k l e h =
    let x : z.window + z.input - z.window ≡ z.input = omega arith in
    let y : z.window + z.input + z.output - (z.window + z.input) ≡ z.output = omega arith in
    rw (e, x, y) (ap (λ (t : State). machine_of z t l) (sym h))
