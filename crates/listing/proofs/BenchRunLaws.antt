-- The calls of the bench run, one behind the other, are its definition.
use mathlib.Core.Bool.{false}
use mathlib.Core.List.{List, ◌++◌}
use mathlib.Core.Path.{◌≡◌, refl, sym, ap, ◌∙◌}
use Prim.Native.Nat.{ℕ, ◌+◌, ◌*◌, ◌≤◌, ◌<◌}
use native.Mathlib.Omega.{arith}
use borrow.Author.Tests.{lt-ltb, le-ltb, ne_eqb, eq-eqb}
use lib.ListN.{length, take, drop}
use Rattle.common.specs.Choice.{when◌then◌else◌}
use Rattle.queries.specs.Queries.{ReportAnswer, refused_report, report_of}
use Rattle.supervisor.specs.Calls.{change, drain, refusal, after_call, outcome_of, drained_count, drained_buffer}
use Rattle.common.specs.RefusalLaws.{number_some}
use Rattle.common.specs.Refusals.{refusal_number}
use Rattle.common.specs.declared.refusals.Refusal.{Refusal}
use Rattle.system.specs.System.{Outcome, outcome, System, system, slot_of}
use Rattle.table.specs.Table.{new_table, is_empty}
use Rattle.supervisor.specs.Draining.{written_bytes}
use Rattle.system.specs.ConditionLaws.{SoundSystem, ReadySlot, loaded_ready}
use Rattle.table.specs.declared.table.Table.{Table}
use Rattle.listing.specs.Text.{refused_line, lines_of}
use Rattle.listing.specs.BenchListing.{new_system, load_call, after_bench_rounds, file_refusal, lines_after, text_of, memory_after, listing_outcome, listing_of}
use Rattle.listing.specs.UntilStopped.{until_stopped}
use Rattle.listing.specs.ListingLaws.{reported, output_drain_accepted, slot_loaded, after_bench_rounds_ready, status_low, output_few, output_length, drained_front}
use Rattle.common.specs.ConditionDefinitions.{condition_definitions}

-- ---- report and output

module _ (x : System) (good : SoundSystem x) (loaded : is_empty (slot_of x 0) ≡ false) where
  bench_ready : ReadySlot x 0
  bench_ready = loaded_ready x 0 good (omega arith) loaded

  pub status_digit : (r : ReportAnswer) → r ≡ report_of x.table 0 → r.status < 10
  status_digit r e = rw e (status_low x bench_ready)

  -- neither call is refused
  pub report_not_refused : (refusal : Refusal) → refused_report (refusal_number refusal) ≡ report_of x.table 0 → ⊥
  report_not_refused refusal e = number_some refusal (ap (λ (r : ReportAnswer). r.refusal) e ∙ reported x bench_ready)

  pub drain_not_refused : (refusal : Refusal) (t : Table) (room : ℕ) → 4096 ≤ room → outcome (refusal_number refusal) t x.memory ≡ outcome_of (change 0 (drain room)) x → ⊥
  unfolding outcome_of
  drain_not_refused refusal t room h e = number_some refusal (ap (λ (o : Outcome). o.refusal) e ∙ output_drain_accepted x bench_ready room h)

  pub output_drained : (buffer after output : List ℕ) (count : ℕ) → length buffer ≡ 4096 → count ≡ drained_count x 0 (length buffer)
      → after ≡ drained_buffer x 0 buffer → output ≡ take count after → output ≡ written_bytes (slot_of x 0) x.memory
  output_drained buffer after output count room e f h = h ∙ rw (e, f) (drained_front x bench_ready buffer (omega arith))

  pub output_fits : (output : List ℕ) → output ≡ written_bytes (slot_of x 0) x.memory → 38 + 3 * length output ≤ 12326
  output_fits output e =
      let n : length output ≡ (slot_of x 0).state.written = ap length e ∙ output_length x bench_ready in
      let few = output_few x bench_ready in
      omega arith

  pub lines_after_law : (r : ReportAnswer) (output t₀ t : List ℕ) (n : ℕ) → r ≡ report_of x.table 0 → output ≡ written_bytes (slot_of x 0) x.memory
      → (n ≡ length (lines_of r output)) × (t ≡ lines_of r output ++ drop n t₀) → (n ≡ length (lines_after x)) × (t ≡ lines_after x ++ drop n t₀)
  unfolding lines_after
  lines_after_law r output t₀ t n e f h = rw (← e, ← f) h

-- ---- the whole

pub refused_room : (file memory text : List ℕ) → length text < 12326 → listing_outcome 16 0 memory text ≡ listing_of file memory text
unfolding condition_definitions listing_of
refused_room file memory text h = rw (lt-ltb (length text) 12326 h)

pub refused_memory : (file memory text : List ℕ) → 12326 ≤ length text → (length memory ≡ 40960 → ⊥) → listing_outcome 2 0 memory text ≡ listing_of file memory text
unfolding condition_definitions listing_of
refused_memory file memory text h some = rw (le-ltb (length text) 12326 h, ne_eqb (length memory) 40960 some)

pub listed_text : (file memory text m t : List ℕ) (n : ℕ) → 12326 ≤ length text → length memory ≡ 40960
    → (n ≡ length (text_of file memory)) × ((m ≡ memory_after file memory) × (t ≡ text_of file memory ++ drop n text)) → listing_outcome 0 n m t ≡ listing_of file memory text
unfolding condition_definitions listing_of
listed_text file memory text m t n h g e = rw (le-ltb (length text) 12326 h, eq-eqb (length memory) 40960 g, e.1.1, e.1.0, e.0)

-- ---- the file

module _ (file memory : List ℕ) where
  long_file : 36897 < length file → file_refusal file memory ≡ 6
  unfolding condition_definitions file_refusal
  long_file h = rw (lt-ltb 36897 (length file) h)

  short_refused : length file ≤ 36897 → (refusal (load_call file) (new_system memory) ≡ 0 → ⊥) → file_refusal file memory ≡ refusal (load_call file) (new_system memory)
  unfolding condition_definitions file_refusal
  short_refused h some = rw (le-ltb 36897 (length file) h, ne_eqb (refusal (load_call file) (new_system memory)) 0 some)

  short_accepted : length file ≤ 36897 → refusal (load_call file) (new_system memory) ≡ 0 → file_refusal file memory ≡ 0
  unfolding condition_definitions file_refusal
  short_accepted h none = rw (le-ltb 36897 (length file) h, none)

  -- the answer and both lent slices where the file is refused, and where it is not
  refused_text : (k n : ℕ) (t₀ t : List ℕ) → file_refusal file memory ≡ k → (k ≡ 0 → ⊥) → (n ≡ length (refused_line k)) × (t ≡ refused_line k ++ drop n t₀)
      → (n ≡ length (text_of file memory)) × ((memory ≡ memory_after file memory) × (t ≡ text_of file memory ++ drop n t₀))
  unfolding text_of memory_after when◌then◌else◌
  refused_text k n t₀ t e some h = rw (e, ne_eqb k 0 some) (h.0, (refl, h.1))

  pub long_text : (n : ℕ) (t₀ t : List ℕ) → 36897 < length file → (n ≡ length (refused_line 6)) × (t ≡ refused_line 6 ++ drop n t₀)
      → (n ≡ length (text_of file memory)) × ((memory ≡ memory_after file memory) × (t ≡ text_of file memory ++ drop n t₀))
  long_text n t₀ t h e = refused_text 6 n t₀ t (long_file h) (λ z. omega arith) e

  module _ (short : length file ≤ 36897) (k : ℕ) (t₁ t₂ : Table) (m₂ : List ℕ) (new : t₁ ≡ new_table 40960)
      (answer : outcome k t₂ m₂ ≡ outcome_of (load_call file) (system t₁ memory)) where
    from_new : outcome k t₂ m₂ ≡ outcome_of (load_call file) (new_system memory)
    from_new = answer ∙ ap (λ (t : Table). outcome_of (load_call file) (system t memory)) new

    load_refusal : k ≡ refusal (load_call file) (new_system memory)
    unfolding outcome_of
    load_refusal = ap (λ (o : Outcome). o.refusal) from_new

    load_after : system t₂ m₂ ≡ after_call (load_call file) (new_system memory)
    unfolding outcome_of
    load_after = ap (λ (o : Outcome). o.after) from_new

    pub refused_load : (n : ℕ) (t₀ t : List ℕ) → (k ≡ 0 → ⊥) → (n ≡ length (refused_line k)) × (t ≡ refused_line k ++ drop n t₀)
        → (n ≡ length (text_of file memory)) × ((m₂ ≡ memory_after file memory) × (t ≡ text_of file memory ++ drop n t₀))
    unfolding after_call when◌then◌else◌
    refused_load n t₀ t some e =
        let z : refusal (load_call file) (new_system memory) ≡ 0 → ⊥ = λ h. some (load_refusal ∙ h) in
        let kept : m₂ ≡ memory = ap (λ (x : System). x.memory) load_after ∙ rw (ne_eqb (refusal (load_call file) (new_system memory)) 0 z) in
        let whole = refused_text k n t₀ t (short_refused short z ∙ sym load_refusal) some e in
        (whole.0, (kept ∙ whole.1.0, whole.1.1))

    module _ (none : k ≡ 0) (room : length memory ≡ 40960) (t₃ : Table) (m₃ : List ℕ) (ran : system t₃ m₃ ≡ until_stopped 1000 (system t₂ m₂)) where
      pub end_after_bench_rounds : system t₃ m₃ ≡ after_bench_rounds file memory
      unfolding after_bench_rounds
      end_after_bench_rounds = ran ∙ ap (until_stopped 1000) load_after

      end_ready : ReadySlot (system t₃ m₃) 0
      end_ready = rw end_after_bench_rounds (after_bench_rounds_ready file memory room (sym load_refusal ∙ none))

      pub end_sound : SoundSystem (system t₃ m₃)
      end_sound = end_ready.system

      pub end_loaded : is_empty (slot_of (system t₃ m₃) 0) ≡ false
      end_loaded = slot_loaded (system t₃ m₃) end_ready

      pub after_bench_rounds_text : (n : ℕ) (t₀ t : List ℕ) → (n ≡ length (lines_after (system t₃ m₃))) × (t ≡ lines_after (system t₃ m₃) ++ drop n t₀)
          → (n ≡ length (text_of file memory)) × ((m₃ ≡ memory_after file memory) × (t ≡ text_of file memory ++ drop n t₀))
      unfolding text_of memory_after when◌then◌else◌
      after_bench_rounds_text n t₀ t e =
          rw (short_accepted short (sym load_refusal ∙ none), ← end_after_bench_rounds) (e.0, (refl, e.1))
