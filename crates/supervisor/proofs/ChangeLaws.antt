-- Laws that the checker has shown: what an accepted change says, and that its patch fits.
use Rattle.std.specs.Prelude.{Bool, List, [], ◌++◌, ◌≢◌, ◌≡◌, ℕ, ◌≤◌, ◌<◌, replicate}
use Rattle.std.proofs.Math.Bool.{true, false}
use Rattle.std.proofs.Common.{inl, sym, ap, ◌∙◌, lt-ltb, ltb-false, eqb-true}
use Rattle.std.proofs.Math.Logic.{inr}
use Rattle.std.proofs.Math.Path.{refl}
use native.Mathlib.Omega.{arith}
use Rattle.std.proofs.lemmas.Bool.{eqb-false, not-false}
use Rattle.std.proofs.Math.Dec.{eqb}
use Rattle.std.proofs.Math.ListN.{length}
use Rattle.std.proofs.lemmas.List.{length-replicate}
use Rattle.common.specs.Choice.{when◌then◌else◌}
use Rattle.common.specs.Layout.{layout_size}
use Rattle.common.specs.RefusalLaws.{NoneGivesZero, given_numbered, zero_parts, none_holds, refusal_parts}
use Rattle.common.specs.Refusals.{Condition, refusal_by}
use Rattle.common.specs.TestLaws.{or_false, OneTo}
use Rattle.common.specs.declared.layout.Layout.{Layout}
use Rattle.common.specs.declared.places.Location.{Location}
use Rattle.registers.specs.State.{last_status}
use Rattle.registers.specs.declared.state.State.{State}
use Rattle.registers.specs.Cpu.{fresh_cpu}
use Rattle.loader.specs.Fresh.{fresh_state, fresh_bytes, file_state}
use Rattle.loader.specs.FreshLaws.{fresh_length, zeros_fifteen_bits}
use Rattle.pattern.specs.Reader.{read_of, read_refusal, parameters_of}
use Rattle.pattern.specs.ReaderLaws.{read_zero, read_ranges, input_fits}
use Rattle.pattern.specs.ParameterLaws.{InRange}
use Rattle.supervisor.specs.Calls.{Change, load, unload, feed, drain, change, change_conditions, refusal, patch_of, counted_after, after_change, outcome_of}
use Rattle.system.specs.System.{outcome, System, system, slot_of, patched}
use Rattle.table.specs.TableConditionLaws.{HoldsPattern}
use Rattle.system.specs.ConditionLaws.{SoundSystem, ReadySlot, vacant_numbered, vacant_slot, ready_parts, refusal_ready}
use Rattle.table.specs.FreeBytes.{counted}
use Rattle.table.specs.TableConditions.{empty_slot_conditions}
use Rattle.system.specs.Conditions.{system_conditions}
use Rattle.supervisor.specs.Loading.{file_conditions, location_conditions, partition_for, load_patch}
use Rattle.supervisor.specs.Feeding.{feed_conditions, fed_state, feed_patch}
use Rattle.supervisor.specs.Draining.{drain_conditions, drained_state, drain_patch}
use Rattle.table.specs.Table.{empty_slot, partition_end}
use Rattle.supervisor.specs.Unloading.{unload_patch}
use Rattle.supervisor.specs.Resuming.{resumed_status}
use Rattle.supervisor.specs.CallLaws.{refused_outcome}
use Rattle.system.specs.PatchLaws.{PatchFits, KeepsOthers, patch_keeps, numbers_keep, state_fits, state_put}
use Rattle.table.specs.SoundLaws.{StateSound, Loaded, slot_test, loaded_live, Apart, apart_behind, clear_fact, slots_test, counted_sound}
use Rattle.supervisor.specs.Location.{input_location}
use Rattle.table.specs.Sound.{slot_sound, slots_sound}
use Rattle.table.specs.declared.table.Partition.{Partition}
use Rattle.table.specs.declared.table.Slot.{Slot}
use Rattle.table.specs.declared.table.Table.{Table}
use Rattle.table.specs.TableDefinitions.{sound_definitions}
use Rattle.common.specs.ConditionDefinitions.{condition_definitions}
use Rattle.supervisor.specs.LoadAccepted.{LoadAccepted}

-- ---- load

pub file_numbered : (file : List ℕ) → NoneGivesZero (file_conditions file)
unfolding file_conditions
file_numbered file = (given_numbered (read_refusal (read_of file)), tt)

pub location_numbered : (t : Table) (k : ℕ) (p : Partition) → NoneGivesZero (location_conditions t k p)
unfolding location_conditions
location_numbered t k p = (λ e. omega arith, (λ e. omega arith, tt))

pub load_accepted : (x : System) (k : ℕ) (location : Location) (file : List ℕ) {n : ℕ} → n ≡ refusal (change k (load location file)) x → n ≡ 0 → LoadAccepted x k location file
unfolding refusal change_conditions file_conditions location_conditions
load_accepted x k location file e none =
    let p : Partition = partition_for location (parameters_of file) in
    let c1 = zero_parts (system_conditions x ++ empty_slot_conditions x.table k) (file_conditions file ++ location_conditions x.table k p) (vacant_numbered x k) (sym e ∙ none) in
    let c2 = zero_parts (file_conditions file) (location_conditions x.table k p) (file_numbered file) c1.1 in
    let (passes, (clear, _)) = none_holds (location_conditions x.table k p) (location_numbered x.table k p) c2.1 in
    let (good, slot) = vacant_slot x k c1.0 in
    record {
      system = good;
      slot = slot;
      read = read_zero file (eqb-true _ _ (not-false _ c2.0.0));
      inside = ltb-false _ _ passes;
      clear = clear_fact x.table k p (not-false _ clear);
    }

module _ (x : System) (k : ℕ) (location : Location) (file : List ℕ) (a : LoadAccepted x k location file) where
  loaded_partition : Partition
  loaded_partition = partition_for location (parameters_of file)

  loaded_slot : Slot
  loaded_slot = record { partition = loaded_partition; state = file_state file }

  file_in_range : InRange (parameters_of file)
  file_in_range = read_ranges file (parameters_of file) a.read

  fresh_loaded : Loaded x.table.size loaded_slot
  unfolding loaded_slot loaded_partition partition_for fresh_state fresh_cpu
  fresh_loaded =
      let r = file_in_range in
      let low : (parameters_of file).start.0 < (parameters_of file).layout.window = r.start in
      let high : (parameters_of file).layout.window ≤ 32768 = r.layout.window.fits in
      record {
        partition = record { layout = r.layout; quantum = r.quantum; inside = a.inside };
        state =
            record {
              status = record { some = omega arith; fits = omega arith };
              counter = omega arith;
              returns = λ i. zeros_fifteen_bits 8 i;
              psu = refl;
              read = omega arith;
              filled = input_fits file (parameters_of file) a.read;
              written = omega arith;
              wants_input = λ e. absurd (omega arith);
              full = λ e. absurd (omega arith);
            };
      }

  load_fits : PatchFits x k (load_patch location file)
  unfolding load_patch loaded_slot loaded_partition partition_for
  load_fits =
      let n : length (fresh_bytes file) ≡ layout_size (parameters_of file).layout = fresh_length file a.read in
      record {
        slot = a.slot;
        sound = slot_test _ loaded_slot fresh_loaded;
        clear = a.clear;
        inside = inr (record { loaded = loaded_live _ loaded_slot fresh_loaded; from = omega arith; to = omega arith });
      }

-- ---- unload

-- an empty slot is sound, and its partition meets none
pub empty_sound : (size : ℕ) → slot_sound size empty_slot ≡ true
unfolding sound_definitions
empty_sound size = refl

empty_apart : (p : Partition) → Apart p empty_slot.partition
unfolding empty_slot
empty_apart p = apart_behind p _ (omega arith)

unload_fits : (x : System) (k : ℕ) → HoldsPattern x.table k → PatchFits x k (unload_patch (slot_of x k))
unfolding unload_patch
unload_fits x k h =
    let zeros : List ℕ = replicate (layout_size (slot_of x k).partition.layout) 0 in
    let n : length zeros ≡ layout_size (slot_of x k).partition.layout = length-replicate (layout_size (slot_of x k).partition.layout) 0 in
    record {
      slot = h.slot;
      sound = empty_sound x.table.size;
      clear = λ j q ne. empty_apart (slot_of x j).partition;
      inside = inl (record { loaded = loaded_live _ _ h.loaded; from = omega arith; to = omega arith });
    }

-- ---- feed and drain

pub feed_accepted : (x : System) (k : ℕ) (bytes : List ℕ) {n : ℕ} → n ≡ refusal (change k (feed bytes)) x → n ≡ 0 → ReadySlot x k × (length bytes ≤ (slot_of x k).partition.layout.input)
unfolding refusal change_conditions feed_conditions
feed_accepted x k bytes e none =
    let r = ready_parts x k (feed_conditions (slot_of x k) bytes) (sym e ∙ none) in
    let (unread, (fits, _)) = none_holds (feed_conditions (slot_of x k) bytes) (λ z. omega arith, (λ z. omega arith, tt)) r.1 in
    (r.0, ltb-false _ _ (or_false (eqb (length bytes) 0) _ fits))

pub drain_accepted : (x : System) (k room : ℕ) {n : ℕ} → n ≡ refusal (change k (drain room)) x → n ≡ 0 → ReadySlot x k × ((slot_of x k).state.written ≤ room)
unfolding refusal change_conditions drain_conditions
drain_accepted x k room e none =
    let r = ready_parts x k (drain_conditions (slot_of x k) room) (sym e ∙ none) in
    let h = none_holds (drain_conditions (slot_of x k) room) (λ z. omega arith, tt) r.1 in
    (r.0, ltb-false _ _ h.0)

-- a machine fed, and one drained, is sound; a status of 3, or of 4, becomes 1
resumed_within : (reason n : ℕ) → OneTo n last_status → OneTo (resumed_status reason n) last_status
unfolding resumed_status when◌then◌else◌
resumed_within reason n w = go (eqb n reason)
  where
    go : (b : Bool) → OneTo (when b then 1 else n) last_status
    go true = record { some = omega arith; fits = omega arith }
    go false = w

resumed_left : (reason n : ℕ) → reason ≢ 1 → resumed_status reason n ≡ reason → ⊥
unfolding resumed_status when◌then◌else◌
resumed_left reason n h = go (eqb n reason) refl
  where
    go : (b : Bool) → eqb n reason ≡ b → (when b then 1 else n) ≡ reason → ⊥
    go true e q = h (sym q)
    go false e q = eqb-false n reason e q

resumed_other : (reason n i : ℕ) → i ≢ 1 → resumed_status reason n ≡ i → n ≡ i
unfolding resumed_status when◌then◌else◌
resumed_other reason n i h = go (eqb n reason)
  where
    go : (b : Bool) → (when b then 1 else n) ≡ i → n ≡ i
    go true q = absurd (h (sym q))
    go false q = q

fed_sound : (l : Layout) (s : State) (n : ℕ) → n ≤ l.input → StateSound l s → StateSound l (fed_state n s)
unfolding fed_state
fed_sound l s n h f =
    record {
      status = resumed_within 3 s.status f.status;
      counter = f.counter;
      returns = f.returns;
      psu = f.psu;
      read = omega arith;
      filled = h;
      written = f.written;
      wants_input = λ e. absurd (resumed_left 3 s.status (λ z. omega arith) e);
      full = λ e. f.full (resumed_other 3 s.status 4 (λ z. omega arith) e);
    }

drained_sound : (l : Layout) (s : State) → StateSound l s → StateSound l (drained_state s)
unfolding drained_state
drained_sound l s f =
    record {
      status = resumed_within 4 s.status f.status;
      counter = f.counter;
      returns = f.returns;
      psu = f.psu;
      read = f.read;
      filled = f.filled;
      written = omega arith;
      wants_input = λ e. f.wants_input (resumed_other 4 s.status 3 (λ z. omega arith) e);
      full = λ e. absurd (resumed_left 4 s.status (λ z. omega arith) e);
    }

feed_fits : (x : System) (k : ℕ) → HoldsPattern x.table k → (bytes : List ℕ) → length bytes ≤ (slot_of x k).partition.layout.input → PatchFits x k (feed_patch bytes (slot_of x k))
unfolding feed_patch
feed_fits x k h bytes l =
    let s : Slot = slot_of x k in
    state_fits x k h _ (input_location s.partition) bytes (fed_sound s.partition.layout s.state (length bytes) l h.loaded.state) (omega arith) (omega arith)

feed_sound : (x : System) (k : ℕ) → HoldsPattern x.table k → (bytes : List ℕ) → length bytes ≤ (slot_of x k).partition.layout.input → SoundSystem x → SoundSystem (patched x k (feed_patch bytes (slot_of x k)))
unfolding feed_patch
feed_sound x k h bytes l g =
    let s : Slot = slot_of x k in
    state_put x k h _ (input_location s.partition) bytes (fed_sound s.partition.layout s.state (length bytes) l h.loaded.state) (omega arith) (omega arith) g

drain_fits : (x : System) (k : ℕ) → HoldsPattern x.table k → PatchFits x k (drain_patch (slot_of x k))
unfolding drain_patch
drain_fits x k h =
    let s : Slot = slot_of x k in
    state_fits x k h _ s.partition.base [] (drained_sound s.partition.layout s.state h.loaded.state) (omega arith) (omega arith)

drain_sound : (x : System) (k : ℕ) → HoldsPattern x.table k → SoundSystem x → SoundSystem (patched x k (drain_patch (slot_of x k)))
unfolding drain_patch
drain_sound x k h g =
    let s : Slot = slot_of x k in
    state_put x k h _ s.partition.base [] (drained_sound s.partition.layout s.state h.loaded.state) (omega arith) (omega arith) g

-- ---- every accepted change is a patch that fits

pub change_fits : (c : Change) (x : System) (k : ℕ) → refusal (change k c) x ≡ 0 → PatchFits x k (patch_of c (slot_of x k))
unfolding refusal change_conditions patch_of
change_fits (load location file) x k e = load_fits x k location file (load_accepted x k location file refl e)
change_fits unload x k e = unload_fits x k (refusal_ready x k refl e).holds
change_fits (feed bytes) x k e = let a = feed_accepted x k bytes refl e in feed_fits x k a.0.holds bytes a.1
change_fits (drain room) x k e = drain_fits x k (drain_accepted x k room refl e).0.holds

-- ---- what an accepted change leaves is sound

module _ (x : System) (g : SoundSystem x) (k : ℕ) where
  counted_system : (y : System) → KeepsOthers k x y → SoundSystem (system (counted y.table) y.memory)
  counted_system y h = record { table = counted_sound y.table h.sound; fits = h.fits }

  pub change_keeps : (c : Change) → refusal (change k c) x ≡ 0 → KeepsOthers k x (after_change k c x)
  unfolding counted_after
  change_keeps c e = go c (patch_keeps x g k (patch_of c (slot_of x k)) (change_fits c x k e))
    where
      go : (c : Change) → KeepsOthers k x (patched x k (patch_of c (slot_of x k))) → KeepsOthers k x (after_change k c x)
      go (load location file) h = numbers_keep k x _ _ _ h
      go unload h = numbers_keep k x _ _ _ h
      go (feed bytes) h = h
      go (drain room) h = h

  -- the slots are sound before the free bytes are counted
  pub change_slots : (c : Change) → refusal (change k c) x ≡ 0 → slots_sound (patched x k (patch_of c (slot_of x k))).table ≡ true
  change_slots c e = slots_test _ (patch_keeps x g k (patch_of c (slot_of x k)) (change_fits c x k e)).sound

  pub change_sound : (c : Change) → refusal (change k c) x ≡ 0 → SoundSystem (after_change k c x)
  unfolding counted_after patch_of
  change_sound (load location file) e = counted_system _ (patch_keeps x g k _ (change_fits (load location file) x k e))
  change_sound unload e = counted_system _ (patch_keeps x g k _ (change_fits unload x k e))
  change_sound (feed bytes) e = let a = feed_accepted x k bytes refl e in feed_sound x k a.0.holds bytes a.1 g
  change_sound (drain room) e = drain_sound x k (drain_accepted x k room refl e).0.holds g

-- ---- a load that no memory reaches

location_far : (t : Table) (k : ℕ) (p : Partition) → t.size < partition_end p → refusal_by (location_conditions t k p) ≡ 12
unfolding condition_definitions location_conditions
location_far t k p h = rw (lt-ltb t.size (partition_end p) h)

module _ (x : System) (k : ℕ) (file : List ℕ) where
  abbrev vacant_part : List Condition
  vacant_part = system_conditions x ++ empty_slot_conditions x.table k

  abbrev location_part : Location → List Condition
  location_part a = location_conditions x.table k (partition_for a (parameters_of file))

  -- the refusal does not depend on the location
  abbrev behind_file : ℕ
  behind_file = when eqb (refusal_by (file_conditions file)) 0 then 12 else refusal_by (file_conditions file)

  abbrev far_refusal : ℕ
  far_refusal = when eqb (refusal_by vacant_part) 0 then behind_file else refusal_by vacant_part

  module _ (a : Location) (far : 65536 ≤ a.0) where
    far_location : refusal_by vacant_part ≡ 0 → refusal_by (file_conditions file) ≡ 0 → refusal_by (location_part a) ≡ 12
    unfolding file_conditions partition_for
    far_location e f =
        let g = (vacant_slot x k (none_holds vacant_part (vacant_numbered x k) e)).0 in
        let none = none_holds (file_conditions file) (file_numbered file) f in
        let r = read_ranges file (parameters_of file) (read_zero file (eqb-true _ _ (not-false _ none.0))) in
        location_far x.table k (partition_for a (parameters_of file)) (omega (arith, g.table.slots.size.fits, r.layout.window.some))

    far_file : refusal_by vacant_part ≡ 0 → refusal_by (file_conditions file ++ location_part a) ≡ behind_file
    unfolding when◌then◌else◌
    far_file e = refusal_parts (file_conditions file) (location_part a) (file_numbered file) ∙ go (eqb (refusal_by (file_conditions file)) 0) refl
      where
        go : (b : Bool) → eqb (refusal_by (file_conditions file)) 0 ≡ b
            → (when b then refusal_by (location_part a) else refusal_by (file_conditions file)) ≡ (when b then 12 else refusal_by (file_conditions file))
        go true f = far_location e (eqb-true _ _ f)
        go false f = refl

    far_refusal_law : refusal (change k (load a file)) x ≡ far_refusal
    unfolding refusal change_conditions when◌then◌else◌
    far_refusal_law = refusal_parts vacant_part (file_conditions file ++ location_part a) (vacant_numbered x k) ∙ go (eqb (refusal_by vacant_part) 0) refl
      where
        go : (b : Bool) → eqb (refusal_by vacant_part) 0 ≡ b
            → (when b then refusal_by (file_conditions file ++ location_part a) else refusal_by vacant_part) ≡ (when b then behind_file else refusal_by vacant_part)
        go true e = far_file (eqb-true _ _ e)
        go false e = refl

    far_refused : refusal (change k (load a file)) x ≢ 0
    unfolding partition_for
    far_refused e =
        let h = load_accepted x k a file refl e in
        let r = read_ranges file (parameters_of file) h.read in
        omega (arith, h.inside, h.system.table.slots.size.fits, r.layout.window.some)

  -- so every location from 65,536 on is refused alike
  pub load_far : (a b : Location) → 65536 ≤ a.0 → 65536 ≤ b.0 → outcome_of (change k (load a file)) x ≡ outcome_of (change k (load b file)) x
  load_far a b p q =
      sym (refused_outcome (change k (load a file)) x refl (far_refused a p))
      ∙ ap (λ (n : ℕ). outcome n x.table x.memory) (far_refusal_law a p ∙ sym (far_refusal_law b q))
      ∙ refused_outcome (change k (load b file)) x refl (far_refused b q)
