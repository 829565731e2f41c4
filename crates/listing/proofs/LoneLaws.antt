-- Laws that the checker has shown: the two lines are those of the lone machine, whatever the memory held before.
use Rattle.std.specs.Prelude.{Bool, true, false, List, [], ◌∷◌, ◌≡◌, refl, ℕ, zero, suc, ◌+◌, ◌*◌, ◌≤◌, eqb, length, take, drop}
use Rattle.std.proofs.Common.{sym, ap, ◌∙◌, arith, eqb-true, drop-drop, take-take}
use Rattle.std.proofs.lemmas.Bool.{not-false}
use Rattle.common.specs.Choice.{when◌then◌else◌}
use Rattle.common.specs.Layout.{layout_size}
use Rattle.common.specs.RefusalLaws.{given_numbered, none_holds}
use Rattle.common.specs.Repetition.{times}
use Rattle.cpu.specs.Machine.{machine_of, machine_step}
use Rattle.loader.specs.Fresh.{fresh_bytes, file_state, fresh_machine}
use Rattle.loader.specs.FreshLaws.{fresh_length}
use Rattle.pattern.specs.Reader.{parameters_of}
use Rattle.slices.specs.SliceLaws.{copied_inside, part_front}
use Rattle.slices.specs.Slices.{part_of, copied}
use Rattle.queries.specs.Queries.{report_of}
use Rattle.supervisor.specs.Calls.{run, refusal, patch_of, counted_after, after_call}
use Rattle.supervisor.proofs.ChangeLaws.{load_accepted}
use Rattle.supervisor.specs.LoadAccepted.{LoadAccepted}
use Rattle.system.specs.ConditionLaws.{SoundSystem, ReadySlot}
use Rattle.system.specs.System.{System, slot_of, patched, machine_in}
use Rattle.table.specs.Table.{slot_at}
use Rattle.supervisor.specs.Loading.{partition_for, load_patch}
use Rattle.supervisor.specs.Draining.{written_bytes}
use Rattle.system.specs.PatchLaws.{slot_machine, patched_slot}
use Rattle.system.proofs.RoundLaws.{rounds_running, rounds_machine}
use Rattle.table.specs.declared.table.Partition.{Partition}
use Rattle.table.specs.declared.table.Slot.{Slot}
use Rattle.listing.specs.BenchListing.{new_system, load_call, after_bench_rounds, file_refusal, lines_after, text_of}
use Rattle.listing.specs.UntilStopped.{until_stopped}
use Rattle.listing.specs.ListingLaws.{slot_loaded, fresh_sound, load_after_accepted, load_ready, round_after_accepted, round_ready, after_bench_rounds_ready, report_accepted}
use Rattle.listing.specs.LoneLines.{lone_until, lone_report, lone_lines}

-- ---- the lone machine's lines

-- ---- rounds

step_partition : (x : System) → ReadySlot x 0 → (slot_of (after_call (run 1) x) 0).partition ≡ (slot_of x 0).partition
step_partition x r = rw (round_after_accepted x r.system) ((rounds_running 1 x r.system).partitions 0)

step_machine : (x : System) → ReadySlot x 0 → slot_machine 0 (after_call (run 1) x) ≡ times (slot_of x 0).partition.quantum machine_step (slot_machine 0 x)
step_machine x r =
    let one : 1 * (slot_of x 0).partition.quantum ≡ (slot_of x 0).partition.quantum = omega arith in
    rw (round_after_accepted x r.system)
    (rounds_machine 1 x r.system 0 (omega arith) (slot_loaded x r) ∙ ap (λ (k : ℕ). times k machine_step (slot_machine 0 x)) one)

same_status : (x : System) → eqb (slot_machine 0 x).state.status 1 ≡ eqb (slot_of x 0).state.status 1
unfolding machine_in
same_status x = refl

until_machine : (n : ℕ) (x : System) → ReadySlot x 0 → slot_machine 0 (until_stopped n x) ≡ lone_until n (slot_of x 0).partition.quantum (slot_machine 0 x)
unfolding until_stopped lone_until when◌then◌else◌
until_machine zero x r = refl
until_machine (suc n) x r =
    go (eqb (slot_of x 0).state.status 1) (same_status x) (until_machine n (after_call (run 1) x) (round_ready x r))
  where
    go : (b : Bool) → eqb (slot_machine 0 x).state.status 1 ≡ b
        → slot_machine 0 (until_stopped n (after_call (run 1) x)) ≡ lone_until n (slot_of (after_call (run 1) x) 0).partition.quantum (slot_machine 0 (after_call (run 1) x))
        → slot_machine 0 (when b then until_stopped n (after_call (run 1) x) else x)
        ≡ (when eqb (slot_machine 0 x).state.status 1 then lone_until n (slot_of x 0).partition.quantum (times (slot_of x 0).partition.quantum machine_step (slot_machine 0 x)) else slot_machine 0 x)
    go true e ih =
        rw (e, ← step_machine x r)
        (ih ∙ ap (λ (p : Partition). lone_until n p.quantum (slot_machine 0 (after_call (run 1) x))) (step_partition x r))
    go false e ih = rw e

-- ---- the load

load_machine : (file : List ℕ) (x : System) → SoundSystem x → refusal (load_call file) x ≡ 0
    → (slot_machine 0 (after_call (load_call file) x) ≡ fresh_machine file) × ((slot_of (after_call (load_call file) x) 0).partition ≡ partition_for (record { 0 = 0 }) (parameters_of file))
unfolding counted_after patch_of slot_at partition_for load_patch patched machine_in fresh_machine
load_machine file x g e =
    let a : LoadAccepted x 0 (record { 0 = 0 }) file = load_accepted x 0 (record { 0 = 0 }) file refl e in
    let put = patched_slot x g 0 (load_patch (record { 0 = 0 }) file) (omega arith) in
    let whole : length (fresh_bytes file) ≡ layout_size (parameters_of file).layout = fresh_length file a.read in
    let inside : 0 + length (fresh_bytes file) ≤ length x.memory = omega (arith, whole, a.inside, g.fits) in
    let part : part_of (copied x.memory 0 (fresh_bytes file)) 0 (layout_size (parameters_of file).layout) ≡ fresh_bytes file =
    ap (λ (k : ℕ). part_of (copied x.memory 0 (fresh_bytes file)) 0 k) (sym whole) ∙ copied_inside x.memory 0 (fresh_bytes file) inside
    in
    rw (load_after_accepted file x e) (
      ap (λ (z : Slot). machine_in z (patched x 0 (load_patch (record { 0 = 0 }) file)).memory) put ∙ ap (machine_of (parameters_of file).layout (file_state file)) part,
      ap (λ (z : Slot). z.partition) put,
    )

-- ---- the lines

lone_report_law : (x : System) → ReadySlot x 0 → report_of x.table 0 ≡ lone_report (slot_machine 0 x)
unfolding report_of lone_report machine_in when◌then◌else◌
lone_report_law x r = rw (report_accepted x r)

-- the written bytes, which lie in memory behind the input, are the front of the machine's output
lone_written : (x : System) → ReadySlot x 0 → written_bytes (slot_of x 0) x.memory ≡ take (slot_machine 0 x).state.written (slot_machine 0 x).output
unfolding written_bytes machine_in
lone_written x r =
    let p : Partition = (slot_of x 0).partition in
    let l = p.layout in
    let n : ℕ = (slot_of x 0).state.written in
    let few : n ≤ l.output = r.holds.loaded.state.written in
    let from : ℕ = l.window + l.input in
    let location : p.base.0 + from ≡ p.base.0 + l.window + l.input = omega arith in
    sym
    (take-take n l.output (drop from (part_of x.memory p.base.0 (layout_size l))) few
    ∙ ap (take n) (sym (part_front (drop p.base.0 x.memory) from l.output))
    ∙ take-take n l.output (drop from (drop p.base.0 x.memory)) few
    ∙ ap (take n) (drop-drop from p.base.0 x.memory ∙ ap (λ (k : ℕ). drop k x.memory) location))

lone_lines_law : (x : System) → ReadySlot x 0 → lines_after x ≡ lone_lines (slot_machine 0 x)
unfolding lines_after lone_lines
lone_lines_law x r = rw (lone_report_law x r, lone_written x r)

load_accepted_too : (file memory : List ℕ) → file_refusal file memory ≡ 0 → refusal (load_call file) (new_system memory) ≡ 0
unfolding file_refusal
load_accepted_too file memory e =
    eqb-true _ _ (not-false _ (none_holds (_ ∷ _ ∷ []) (λ z. omega arith, (given_numbered (refusal (load_call file) (new_system memory)), tt)) e).1.0)

-- the text of a file that is not refused
pub lone_text : (file memory : List ℕ) → length memory ≡ 40960 → file_refusal file memory ≡ 0
    → text_of file memory ≡ lone_lines (lone_until 1000 (parameters_of file).quantum (fresh_machine file))
unfolding text_of after_bench_rounds partition_for when◌then◌else◌
lone_text file memory h e =
    let f : refusal (load_call file) (new_system memory) ≡ 0 = load_accepted_too file memory e in
    let x : System = after_call (load_call file) (new_system memory) in
    let g : SoundSystem (new_system memory) = fresh_sound memory h in
    let r : ReadySlot x 0 = load_ready file (new_system memory) g f in
    let m = load_machine file (new_system memory) g f in
    rw e
    (lone_lines_law (after_bench_rounds file memory) (after_bench_rounds_ready file memory h f)
    ∙ ap lone_lines
    (until_machine 1000 x r
    ∙ ap (λ (p : Partition). lone_until 1000 p.quantum (slot_machine 0 x)) m.1
    ∙ ap (lone_until 1000 (parameters_of file).quantum) m.0))
