-- Laws that the checker has shown: demand 3, for any sound table, any memory of its length and any list of events.
-- The statement is `Isolation` in Isolation.antt; `isolation`, at the end of this file, proves it. Nothing is assumed.
use Rattle.std.specs.Prelude.{Bool, true, false, List, [], ◌∷◌, ◌≢◌, ◌≡◌, refl, ℕ, ◌+◌, ◌*◌, ◌<◌, length, get_or, set, take, drop}
use Rattle.std.proofs.Common.{inl, inr, sym, ap, ◌∙◌, zero-mul, arith, eqb-true, eq-eqb, length-set, get_or-set_other, drop-set-lt}
use Rattle.std.proofs.lemmas.List.{take-set-le}
use Rattle.common.specs.Repetition.{times}
use Rattle.common.specs.Layout.{layout_size}
use Rattle.cpu.specs.Machine.{machine_of, machine_step}
use Rattle.common.specs.RepetitionLaws.{times_add}
use Rattle.common.specs.Choice.{when◌then◌else◌}
use Rattle.slices.specs.SliceLaws.{part_front}
use Rattle.slices.specs.Slices.{part_of}
use Rattle.supervisor.specs.Calls.{Call, change, run, query, refusal, after_accepted, is_accepted, after_call}
use Rattle.supervisor.proofs.ChangeLaws.{change_keeps, change_sound}
use Rattle.system.specs.ConditionLaws.{SoundSystem}
use Rattle.supervisor.specs.Events.{Event, call, write, after_event, after_events, rounds_of_call, rounds_of_event, rounds_of_events}
use Rattle.supervisor.specs.Isolation.{LeftAlone, LeftAloneThroughout, NotWritten, InNoPartitionNorWrittenThroughout, SoundThroughout, RunsAccepted, Isolation}
use Rattle.system.specs.System.{System, slot_of, machine_in}
use Rattle.table.specs.TableConditions.{table_conditions}
use Rattle.system.specs.Conditions.{system_conditions}
use Rattle.system.specs.Running.{after_run}
use Rattle.table.specs.PartitionByteLaws.{OutsidePartition, outside_partition}
use Rattle.system.specs.PatchLaws.{slot_machine, KeepsOthers}
use Rattle.system.proofs.RoundLaws.{rounds_running, rounds_machine}
use Rattle.system.specs.RoundsKept.{DiffersByRunning}
use Rattle.table.specs.SoundLaws.{table_fact, table_test}
use Rattle.table.specs.Table.{InNoPartition, is_empty, partition_end}
use Rattle.table.specs.Sound.{table_sound}
use Rattle.table.specs.declared.table.Partition.{Partition}
use Rattle.table.specs.declared.table.Slot.{Slot}
use Rattle.common.specs.ConditionDefinitions.{condition_definitions}

-- slot j goes on as the lone machine for n steps
record RunsAlone (j n : ℕ) (x y : System) : Type 0 where
  partition : (slot_of y j).partition ≡ (slot_of x j).partition
  loaded : is_empty (slot_of y j) ≡ false
  machine : slot_machine j y ≡ times n machine_step (slot_machine j x)

-- what one event, with p rounds accepted, does
record EventIsolates (e : Event) (p : ℕ) (x y : System) : Type 0 where
  system : SoundSystem y
  slot : (j : ℕ) → j < 8 → is_empty (slot_of x j) ≡ false → LeftAlone j e x → RunsAlone j (p * (slot_of x j).partition.quantum) x y
  bytes : (i : ℕ) → NotWritten i e → InNoPartition i x.table → InNoPartition i y.table → get_or y.memory i 0 ≡ get_or x.memory i 0

-- nothing happened
runs_alone_none : (j : ℕ) (x : System) → is_empty (slot_of x j) ≡ false → RunsAlone j 0 x x
unfolding times
runs_alone_none j x m = record { partition = refl; loaded = m; machine = refl }

nothing_isolates : (e : Event) (x : System) → SoundSystem x → EventIsolates e 0 x x
nothing_isolates e x g = record { system = g; slot = λ j q m l. rw zero-mul (runs_alone_none j x m); bytes = λ i w h₀ h₁. refl }

-- slot k was patched, and only who is not k was left alone
patch_isolates : (e : Event) (k : ℕ) (x y : System) → ((j : ℕ) → LeftAlone j e x → j ≢ k) → SoundSystem y → KeepsOthers k x y → EventIsolates e 0 x y
unfolding times
patch_isolates e k x y other sound h =
    record {
      system = sound;
      slot = λ j q m l.
          let same : slot_of y j ≡ slot_of x j = h.slots j (other j l) in
          rw zero-mul
          (record {
            partition = ap (λ (s : Slot). s.partition) same;
            loaded = ap (λ (s : Slot). is_empty s) same ∙ m;
            machine = h.machines j q (other j l);
          });
      bytes = λ i w h₀ h₁. h.bytes i h₀ h₁;
    }

run_isolates : (c : ℕ) (x : System) → SoundSystem x → EventIsolates (call (run c)) c x (after_run c x)
run_isolates c x g =
    let m : DiffersByRunning x (after_run c x) = rounds_running c x g in
    record {
      system = m.system;
      slot = λ j q mj l. record { partition = m.partitions j; loaded = m.loaded j ∙ mj; machine = rounds_machine c x g j q mj };
      bytes = λ i w h₀ h₁. m.bytes i h₀;
    }

accepted_isolates : (c : Call) (x : System) → SoundSystem x → refusal c x ≡ 0 → EventIsolates (call c) (rounds_of_call c) x (after_accepted c x)
unfolding after_accepted rounds_of_call LeftAlone
accepted_isolates (change k c) x g e = patch_isolates (call (change k c)) k x _ (λ j l q. l (sym q) e) (change_sound x g k c e) (change_keeps x g k c e)
accepted_isolates (run n) x g e = run_isolates n x g
accepted_isolates (query q) x g e = nothing_isolates (call (query q)) x g

call_isolates : (c : Call) (x : System) → SoundSystem x → EventIsolates (call c) (rounds_of_event (call c) x) x (after_call c x)
unfolding after_call rounds_of_event when◌then◌else◌
call_isolates c x g = go (is_accepted c x) refl
  where
    go : (b : Bool) → is_accepted c x ≡ b → EventIsolates (call c) (when b then rounds_of_call c else 0) x (when b then after_accepted c x else x)
    go true a = accepted_isolates c x g (eqb-true (refusal c x) 0 a)
    go false a = nothing_isolates (call c) x g

-- a byte written from outside, outside a partition, leaves its machine
part_elsewhere : (p : Partition) (memory : List ℕ) (i b : ℕ) → OutsidePartition p i → part_of (set memory i b) p.base.0 (layout_size p.layout) ≡ part_of memory p.base.0 (layout_size p.layout)
part_elsewhere p memory i b (inl u) = ap (take (layout_size p.layout)) (drop-set-lt p.base.0 memory i b u)
part_elsewhere p memory i b (inr u) =
    part_front (set memory i b) p.base.0 (layout_size p.layout) ∙ ap (drop p.base.0) (take-set-le (partition_end p) memory i b u) ∙ sym (part_front memory p.base.0 (layout_size p.layout))

written_elsewhere : (s : Slot) (memory : List ℕ) (i b : ℕ) → OutsidePartition s.partition i → machine_in s (set memory i b) ≡ machine_in s memory
unfolding machine_in
written_elsewhere s memory i b o = ap (machine_of s.partition.layout s.state) (part_elsewhere s.partition memory i b o)

write_isolates : (i b : ℕ) (x : System) → SoundSystem x → EventIsolates (write i b) 0 x (after_event (write i b) x)
unfolding after_event LeftAlone NotWritten times
write_isolates i b x g =
    record {
      system = record { table = g.table; fits = length-set x.memory i b ∙ g.fits };
      slot = λ j q m l.
          rw zero-mul
          (record {
            partition = refl;
            loaded = m;
            machine = written_elsewhere (slot_of x j) x.memory i b (outside_partition (slot_of x j) i l m);
          });
      bytes = λ n w h₀ h₁. get_or-set_other x.memory i n b 0 (λ e. w (sym e));
    }

event_isolates : (e : Event) (x : System) → SoundSystem x → EventIsolates e (rounds_of_event e x) x (after_event e x)
unfolding after_event rounds_of_event
event_isolates (call c) x g = call_isolates c x g
event_isolates (write i b) x g = write_isolates i b x g

-- ---- the list

runs_alone_trans : (j n m : ℕ) (x y z : System) → RunsAlone j n x y → RunsAlone j m y z → RunsAlone j (n + m) x z
runs_alone_trans j n m x y z p q =
    let e : m + n ≡ n + m = omega arith in
    record {
      partition = q.partition ∙ p.partition;
      loaded = q.loaded;
      machine =
          q.machine
          ∙ ap (times m machine_step) p.machine
          ∙ sym (times_add machine_step m n (slot_machine j x))
          ∙ ap (λ (i : ℕ). times i machine_step (slot_machine j x)) e;
    }

slot_after_events : (events : List Event) (x : System) → SoundSystem x → (j : ℕ) → j < 8 → is_empty (slot_of x j) ≡ false → LeftAloneThroughout j events x → RunsAlone j (rounds_of_events events x * (slot_of x j).partition.quantum) x (after_events events x)
unfolding LeftAloneThroughout rounds_of_events after_events
slot_after_events [] x g j q m l = rw zero-mul (runs_alone_none j x m)
slot_after_events (e ∷ rest) x g j q m l =
    let f = event_isolates e x g in
    let p = f.slot j q m l.0 in
    let r = slot_after_events rest (after_event e x) f.system j q p.loaded l.1 in
    let s : ℕ = (slot_of x j).partition.quantum in
    let d : rounds_of_event e x * s + rounds_of_events rest (after_event e x) * s ≡ (rounds_of_event e x + rounds_of_events rest (after_event e x)) * s = omega arith in
    rw (← d) (runs_alone_trans j _ _ x (after_event e x) (after_events rest (after_event e x)) p (rw (ap (λ (z : Partition). z.quantum) p.partition) at r))

byte_after_events : (events : List Event) (x : System) → SoundSystem x → (i : ℕ) → InNoPartitionNorWrittenThroughout i events x → get_or (after_events events x).memory i 0 ≡ get_or x.memory i 0
unfolding InNoPartitionNorWrittenThroughout after_events
byte_after_events [] x g i h = refl
byte_after_events (e ∷ rest) x g i h =
    let f = event_isolates e x g in
    byte_after_events rest (after_event e x) f.system i h.2 ∙ f.bytes i h.1 h.0 (first rest (after_event e x) h.2)
  where
    first : (events : List Event) (y : System) → InNoPartitionNorWrittenThroughout i events y → InNoPartition i y.table
    first [] y h = h
    first (d ∷ events) y h = h.0

sound_throughout : (events : List Event) (x : System) → SoundSystem x → SoundThroughout events x
unfolding SoundThroughout
sound_throughout [] x g = table_test x.table g.table
sound_throughout (e ∷ rest) x g = (table_test x.table g.table, sound_throughout rest (after_event e x) (event_isolates e x g).system)

-- a sound table with its memory refuses no run
pub run_accepted : (x : System) → SoundSystem x → (count : ℕ) → refusal (run count) x ≡ 0
unfolding condition_definitions refusal system_conditions table_conditions
run_accepted x g count = simp (table_test x.table g.table, eq-eqb (length x.memory) x.table.size g.fits)

runs_throughout : (events : List Event) (x : System) → SoundSystem x → RunsAccepted events x
unfolding RunsAccepted
runs_throughout [] x g = tt
runs_throughout (e ∷ rest) x g = (run_accepted x g, runs_throughout rest (after_event e x) (event_isolates e x g).system)

-- Demand 3.
pub isolation : (x : System) (events : List Event) → table_sound x.table ≡ true → length x.memory ≡ x.table.size → Isolation x events
isolation x events h f =
    let g : SoundSystem x = record { table = table_fact x.table h; fits = f } in
    record {
      machine = λ k q m l. (slot_after_events events x g k q m l).machine;
      partition = λ k q m l. (slot_after_events events x g k q m l).partition;
      byte = λ i l. byte_after_events events x g i l;
      tables = sound_throughout events x g;
      runs = runs_throughout events x g;
    }
