-- Laws that the checker has shown: the bench run's slot stays sound and loaded, so that its report and its output bytes fit the text.
use Rattle.std.specs.Prelude.{Bool, true, false, ◌&&◌, List, ◌≡◌, refl, ℕ, zero, suc, ◌-◌, ◌≤◌, ◌<◌, eqb, ltb, length, take, drop}
use Rattle.std.proofs.lemmas.Bool.{false≢true}
use Rattle.std.proofs.Common.{sym, ap, ◌∙◌, arith, take_at}
use borrow.Author.Tests.{eq-eqb, le-ltb, lt-ltb, ltb-true}
use Rattle.common.specs.Choice.{when◌then◌else◌}
use Rattle.common.specs.TestLaws.{and_fact}
use Rattle.loader.specs.Fresh.{fresh_state}
use Rattle.slices.specs.SliceLaws.{part_length}
use Rattle.queries.specs.Queries.{report, query_refusal, report_of}
use Rattle.supervisor.specs.Calls.{load, change, run, drain, refusal, patch_of, counted_after, after_change, after_accepted, after_call, drained_count, drained_buffer}
use Rattle.supervisor.proofs.ChangeLaws.{change_sound}
use Rattle.system.specs.ConditionLaws.{SoundSystem, ReadySlot, loaded_ready}
use Rattle.system.specs.System.{System, slot_of}
use Rattle.table.specs.Table.{new_table, new_refusal, is_empty, slot_at}
use Rattle.supervisor.specs.Draining.{written_bytes}
use Rattle.supervisor.specs.Loading.{load_patch}
use Rattle.system.specs.Running.{after_run}
use Rattle.system.specs.PatchLaws.{slot_inside, patched_slot}
use Rattle.system.proofs.RoundLaws.{rounds_running}
use Rattle.system.specs.RoundsKept.{DiffersByRunning}
use Rattle.table.specs.SoundLaws.{loaded_live, table_fact, table_test}
use Rattle.supervisor.specs.Location.{output_location}
use Rattle.supervisor.proofs.IsolationTheorem.{run_accepted}
use Rattle.listing.specs.BenchListing.{new_system, load_call, after_bench_rounds}
use Rattle.listing.specs.UntilStopped.{until_stopped}
use Rattle.table.specs.TableDefinitions.{sound_definitions}
use Rattle.supervisor.specs.CallDefinitions.{refusal_definitions}
use Rattle.common.specs.ConditionDefinitions.{condition_definitions}

-- slot 0 is loaded
pub slot_loaded : (x : System) → ReadySlot x 0 → is_empty (slot_of x 0) ≡ false
slot_loaded x r = loaded_live _ _ r.holds.loaded

pub fresh_sound : (memory : List ℕ) → length memory ≡ 40960 → SoundSystem (new_system memory)
unfolding condition_definitions sound_definitions new_table new_refusal
fresh_sound memory h = record { table = table_fact (new_table 40960) refl; fits = h }

-- an accepted load
pub load_after_accepted : (file : List ℕ) (x : System) → refusal (load_call file) x ≡ 0 → after_call (load_call file) x ≡ after_change 0 (load (record { 0 = 0 }) file) x
unfolding after_call after_accepted when◌then◌else◌
load_after_accepted file x e = rw (eq-eqb (refusal (load_call file) x) 0 e)

load_slot : (file : List ℕ) (x : System) → SoundSystem x → is_empty (slot_of (after_change 0 (load (record { 0 = 0 }) file) x) 0) ≡ false
unfolding counted_after patch_of slot_at load_patch fresh_state
load_slot file x g = ap is_empty (patched_slot x g 0 (load_patch (record { 0 = 0 }) file) (omega arith))

pub load_ready : (file : List ℕ) (x : System) → SoundSystem x → refusal (load_call file) x ≡ 0 → ReadySlot (after_call (load_call file) x) 0
load_ready file x g e =
    rw (load_after_accepted file x e)
    (loaded_ready (after_change 0 (load (record { 0 = 0 }) file) x) 0 (change_sound x g 0 (load (record { 0 = 0 }) file) e) (omega arith) (load_slot file x g))

-- ---- single rounds

pub round_after_accepted : (x : System) → SoundSystem x → after_call (run 1) x ≡ after_run 1 x
unfolding after_call after_accepted when◌then◌else◌
round_after_accepted x g = rw (eq-eqb (refusal (run 1) x) 0 (run_accepted x g 1))

pub round_ready : (x : System) → ReadySlot x 0 → ReadySlot (after_call (run 1) x) 0
round_ready x r =
    let m : DiffersByRunning x (after_run 1 x) = rounds_running 1 x r.system in
    rw (round_after_accepted x r.system) (loaded_ready (after_run 1 x) 0 m.system (omega arith) (m.loaded 0 ∙ slot_loaded x r))

-- what holds of a system and after each single round holds in the end
pub until_keeps : (P : System → Type 0) → ((x : System) → P x → P (after_call (run 1) x)) → (n : ℕ) (x : System) → P x → P (until_stopped n x)
unfolding until_stopped when◌then◌else◌
until_keeps P step zero x p = p
until_keeps P step (suc n) x p = go (eqb (slot_of x 0).state.status 1) (until_keeps P step n (after_call (run 1) x) (step x p))
  where
    go : (b : Bool) → P (until_stopped n (after_call (run 1) x)) → P (when b then until_stopped n (after_call (run 1) x) else x)
    go true q = q
    go false q = p

pub until_more : (n : ℕ) (x : System) {b : Bool} → b ≡ eqb (slot_of x 0).state.status 1 → (ltb 0 n && b) ≡ true → until_stopped n x ≡ until_stopped (n - 1) (after_call (run 1) x)
unfolding until_stopped when◌then◌else◌
until_more zero x e h = absurd (false≢true h)
until_more (suc n) x {b} e h =
    let s : eqb (slot_of x 0).state.status 1 ≡ true = sym e ∙ (and_fact (ltb 0 (suc n)) b h).1 in
    let k : suc n - 1 ≡ n = omega arith in
    rw (s, k)

pub rounds_left : (n : ℕ) (b : Bool) → (ltb 0 n && b) ≡ true → 0 < n
rounds_left n b h = ltb-true 0 n (and_fact (ltb 0 n) b h).0

pub until_done : (n : ℕ) (x : System) {b : Bool} → b ≡ eqb (slot_of x 0).state.status 1 → (ltb 0 n && b) ≡ false → until_stopped n x ≡ x
unfolding until_stopped when◌then◌else◌
until_done zero x e h = refl
until_done (suc n) x {b} e h =
    let s : eqb (slot_of x 0).state.status 1 ≡ false = sym e ∙ (rw (lt-ltb 0 (suc n) (omega arith)) at h) in
    rw s

pub after_bench_rounds_ready : (file memory : List ℕ) → length memory ≡ 40960 → refusal (load_call file) (new_system memory) ≡ 0 → ReadySlot (after_bench_rounds file memory) 0
unfolding after_bench_rounds
after_bench_rounds_ready file memory h e = until_keeps (λ (x : System). ReadySlot x 0) round_ready 1000 _ (load_ready file (new_system memory) (fresh_sound memory h) e)

-- ---- report and output

module _ (x : System) (r : ReadySlot x 0) where
  pub report_accepted : query_refusal (report 0) x.table ≡ 0
  unfolding refusal_definitions
  report_accepted = simp (table_test x.table r.system.table, slot_loaded x r)

  pub reported : (report_of x.table 0).refusal ≡ 0
  unfolding report_of when◌then◌else◌
  reported = rw report_accepted

  -- the status has one digit
  pub status_low : (report_of x.table 0).status < 10
  unfolding report_of when◌then◌else◌
  status_low = rw (report_accepted) (let h = r.holds.loaded.state.status.fits in omega arith)

  pub output_few : (slot_of x 0).state.written ≤ 4096
  output_few = omega (arith, r.holds.loaded.state.written, r.holds.loaded.partition.layout.output.fits)

  pub output_length : length (written_bytes (slot_of x 0) x.memory) ≡ (slot_of x 0).state.written
  unfolding written_bytes
  output_length =
      let inside = slot_inside x r.system 0 (omega arith) in
      let few = r.holds.loaded.state.written in
      part_length x.memory (output_location (slot_of x 0).partition).0 (slot_of x 0).state.written (omega arith)

  pub output_drain_accepted : (room : ℕ) → 4096 ≤ room → refusal (change 0 (drain room)) x ≡ 0
  unfolding refusal_definitions
  output_drain_accepted room h =
      let few : (slot_of x 0).state.written ≤ room = omega (arith, output_few) in
      simp (table_test x.table r.system.table, eq-eqb (length x.memory) x.table.size r.system.fits, slot_loaded x r, le-ltb room (slot_of x 0).state.written few)

  pub output_drain_count : (room : ℕ) → 4096 ≤ room → drained_count x 0 room ≡ (slot_of x 0).state.written
  unfolding drained_count when◌then◌else◌
  output_drain_count room h = rw (output_drain_accepted room h)

  -- what is drained is the front of the buffer
  pub drained_front : (buffer : List ℕ) → 4096 ≤ length buffer → take (drained_count x 0 (length buffer)) (drained_buffer x 0 buffer) ≡ written_bytes (slot_of x 0) x.memory
  unfolding drained_buffer when◌then◌else◌
  drained_front buffer h =
      rw (output_drain_count (length buffer) h, output_drain_accepted (length buffer) h)
      (take_at (written_bytes (slot_of x 0) x.memory) (drop (slot_of x 0).state.written buffer) (slot_of x 0).state.written output_length)
