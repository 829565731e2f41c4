-- A call by value on the decoded table, with its answer and its bytes stored, is the host's call.
use mathlib.Core.Bool.{Bool, true, false}
use mathlib.Core.List.{List, ◌++◌}
use mathlib.Core.Path.{◌≡◌, refl, sym, ap, ◌∙◌}
use Prim.Native.Nat.{ℕ, ◌≤◌, ◌<◌, min}
use native.Mathlib.Decide.{dec_lt}
use native.Mathlib.Omega.{arith}
use borrow.Author.Tests.{eq-eqb, ne_eqb, eqb-true, lt-ltb, le-ltb}
use lib.Dec.{eqb}
use lib.ListN.{length, drop}
use Rattle.common.specs.Choice.{when◌then◌else◌}
use Rattle.common.specs.declared.places.Location.{Location}
use Rattle.slices.specs.SliceLaws.{copied_front}
use Rattle.slices.specs.Slices.{copied}
use Rattle.supervisor.proofs.ChangeLaws.{drain_accepted, load_far}
use Rattle.queries.specs.Queries.{FitAnswer, ReportAnswer, report, query_refusal, report_of, backlog_outcome, backlog_of, fit_of}
use Rattle.supervisor.specs.Calls.{Call, change, load, drain, outcome_of, refusal, after_call, drained_count, drained_buffer}
use Rattle.system.specs.System.{Outcome, outcome, System, system, slot_of}
use Rattle.table.specs.TableConditionLaws.{HoldsPattern}
use Rattle.table.specs.Table.{new_refusal, new_table}
use Rattle.table.specs.declared.table.Table.{Table}
use Rattle.host.specs.HostCalls.{answer_of, lent_system, table_bytes_after, buffer_outcome, host_new, host_buffers, host_outcome, host_after_call, host_outcome_of, host_drained_buffer, report_bytes, report_length, host_report_refusal, host_report, buffer_outcome_of, host_backlog, answer_of_fit, host_fit}
use Rattle.common.specs.RefusalLaws.{number_some}
use Rattle.common.specs.Refusals.{refusal_number}
use Rattle.common.specs.declared.refusals.Refusal.{Refusal}
use Rattle.encoding.specs.TableRoundTripLaws.{stored_whole}
use Rattle.encoding.specs.TableEncoding.{stored_table, table_from_bytes, table_length}
use Rattle.common.specs.ConditionDefinitions.{condition_definitions}

-- ---- calls with a table and a memory

pub other_length : (count : ℕ) (c : Call) (table memory : List ℕ) (a : ℕ) → (length table ≡ table_length → ⊥) → a ≡ answer_of 1 0 → host_outcome a table memory ≡ host_outcome_of c count (host_buffers table memory)
unfolding host_outcome_of host_after_call when◌then◌else◌
other_length count c table memory a h e = rw (ne_eqb (length table) table_length h, e)

module _ (c : Call) (table memory : List ℕ) (before : Table) (n : ℕ) (after : Table) (left : List ℕ) (whole : length table ≡ table_length) (decoded : before ≡ table_from_bytes table)
    (done : outcome n after left ≡ outcome_of c (system before memory)) where
  call_made : outcome n after left ≡ outcome_of c (lent_system table memory)
  call_made = done ∙ ap (λ (t : Table). outcome_of c (system t memory)) decoded

  call_refusal : n ≡ refusal c (lent_system table memory)
  unfolding outcome_of
  call_refusal = ap (λ (o : Outcome). o.refusal) call_made

  table_after : after ≡ (after_call c (lent_system table memory)).table
  unfolding outcome_of
  table_after = ap (λ (o : Outcome). o.after.table) call_made

  memory_after_law : left ≡ (after_call c (lent_system table memory)).memory
  unfolding outcome_of
  memory_after_law = ap (λ (o : Outcome). o.after.memory) call_made

  pub call_stored : (count : ℕ) {given : ℕ} (a : ℕ) (b : List ℕ) → count ≡ given → a ≡ answer_of n count → b ≡ table_bytes_after n after table → host_outcome a b left ≡ host_outcome_of c given (host_buffers table memory)
  unfolding host_outcome_of host_after_call when◌then◌else◌
  call_stored count a b few answer stored = rw (eq-eqb (length table) table_length whole, answer, stored, few, call_refusal, table_after, memory_after_law)

-- the bytes that an accepted and a refused call leave
pub stored_accepted : (bytes b : List ℕ) (t : Table) → length bytes ≡ table_length → b ≡ stored_table bytes t → b ≡ table_bytes_after 0 t bytes
unfolding table_bytes_after when◌then◌else◌
stored_accepted bytes b t whole put = put ∙ stored_whole bytes t whole

pub kept_refused : (refusal : Refusal) (t : Table) (bytes : List ℕ) → bytes ≡ table_bytes_after (refusal_number refusal) t bytes
unfolding table_bytes_after when◌then◌else◌
kept_refused refusal t bytes = rw (ne_eqb _ 0 (number_some refusal)) refl

-- ---- a load

-- the place that is handed on is refused, or taken, as the place of that number
pub location_same : (x : System) (k n : ℕ) (l : Location) (file : List ℕ) → l.0 ≡ min n 65536 → outcome_of (change k (load l file)) x ≡ outcome_of (change k (load (record { 0 = n }) file)) x
location_same x k n l file e = go (dec_lt n 65536)
  where
    go : Dec (n < 65536) → outcome_of (change k (load l file)) x ≡ outcome_of (change k (load (record { 0 = n }) file)) x
    go (yes p) =
        let same : l.0 ≡ n = omega arith in
        ap (λ (i : ℕ). outcome_of (change k (load (record { 0 = i }) file)) x) same
    go (no p) = load_far x k file l (record { 0 = n }) (omega arith) (omega arith)

-- ---- a drain

drained_written_few : (x : System) (k room : ℕ) → refusal (change k (drain room)) x ≡ 0 → (slot_of x k).state.written ≤ 4096
drained_written_few x k room e =
    let h : HoldsPattern x.table k = (drain_accepted x k room refl e).0.holds in
    omega (arith, h.loaded.state.written, h.loaded.partition.layout.output.fits)

-- a count has two bytes
pub drained_few : (x : System) (k room : ℕ) → drained_count x k room < 65536
unfolding drained_count when◌then◌else◌
drained_few x k room = go (eqb (refusal (change k (drain room)) x) 0) refl
  where
    go : (b : Bool) → eqb (refusal (change k (drain room)) x) 0 ≡ b → (when b then (slot_of x k).state.written else 0) < 65536
    go true e = omega (arith, drained_written_few x k room (eqb-true (refusal (change k (drain room)) x) 0 e))
    go false e = omega arith

-- the count of a decoded table's drain
pub decoded_count : (table memory : List ℕ) (k room n : ℕ) (before : Table) → before ≡ table_from_bytes table → n ≡ drained_count (system before memory) k room → n ≡ drained_count (lent_system table memory) k room
decoded_count table memory k room n before decoded e = e ∙ ap (λ (t : Table). drained_count (system t memory) k room) decoded

pub buffer_left : (table memory : List ℕ) (k : ℕ) (buffer : List ℕ) → (length table ≡ table_length → ⊥) → buffer ≡ host_drained_buffer table memory k buffer
unfolding host_drained_buffer when◌then◌else◌
buffer_left table memory k buffer h = rw (ne_eqb (length table) table_length h)

pub buffer_drained : (table memory : List ℕ) (k : ℕ) (buffer b : List ℕ) (before : Table) → length table ≡ table_length → before ≡ table_from_bytes table → b ≡ drained_buffer (system before memory) k buffer → b ≡ host_drained_buffer table memory k buffer
unfolding host_drained_buffer when◌then◌else◌
buffer_drained table memory k buffer b before whole decoded e = rw (eq-eqb (length table) table_length whole, e, decoded)

-- ---- a report

either_refusal : (b : Bool) (n : ℕ) (x y : ReportAnswer) → (b ≡ true → x.refusal ≡ n) → y.refusal ≡ n → ◌≡◌ {A = ℕ} (when b then x else y).refusal n
unfolding when◌then◌else◌
either_refusal true n x y h k = h refl
either_refusal false n x y h k = k

report_refusal : (t : Table) (k : ℕ) → (report_of t k).refusal ≡ query_refusal (report k) t
unfolding report_of
report_refusal t k = either_refusal (eqb (query_refusal (report k) t) 0) (query_refusal (report k) t) _ _ (λ e. sym (eqb-true (query_refusal (report k) t) 0 e)) refl

module _ (table : List ℕ) (k : ℕ) (buffer : List ℕ) where
  pub report_other : (a : ℕ) → (length table ≡ table_length → ⊥) → a ≡ answer_of 1 0 → buffer_outcome a buffer ≡ host_report table k buffer
  unfolding condition_definitions host_report host_report_refusal
  report_other a h e = rw (ne_eqb (length table) table_length h, e)

  module _ (whole : length table ≡ table_length) (before : Table) (r : ReportAnswer) (decoded : before ≡ table_from_bytes table) (call_made : r ≡ report_of before k) where
    report_is : r ≡ report_of (table_from_bytes table) k
    report_is = call_made ∙ ap (λ (t : Table). report_of t k) decoded

    refusal_is : r.refusal ≡ query_refusal (report k) (table_from_bytes table)
    refusal_is = ap (λ (x : ReportAnswer). x.refusal) report_is ∙ report_refusal (table_from_bytes table) k

    pub report_refused : (a : ℕ) → (r.refusal ≡ 0 → ⊥) → a ≡ answer_of r.refusal 0 → buffer_outcome a buffer ≡ host_report table k buffer
    unfolding condition_definitions host_report host_report_refusal
    report_refused a h e =
        let n : eqb (query_refusal (report k) (table_from_bytes table)) 0 ≡ false = ne_eqb _ _ (λ z. h (refusal_is ∙ z)) in
        rw (eq-eqb (length table) table_length whole, n, e, refusal_is) (rw n refl)

    module _ (none : r.refusal ≡ 0) where
      pub report_short : (a : ℕ) → length buffer < report_length → a ≡ answer_of 16 0 → buffer_outcome a buffer ≡ host_report table k buffer
      unfolding condition_definitions host_report host_report_refusal
      report_short a h e =
          let n : query_refusal (report k) (table_from_bytes table) ≡ 0 = sym refusal_is ∙ none in
          rw (eq-eqb (length table) table_length whole, n, lt-ltb (length buffer) report_length h, e)

      pub report_made : (a : ℕ) (b : List ℕ) → report_length ≤ length buffer → a ≡ answer_of 0 0 → length (report_bytes r) ≡ report_length → b ≡ copied buffer 0 (report_bytes r) → buffer_outcome a b ≡ host_report table k buffer
      unfolding condition_definitions host_report host_report_refusal
      report_made a b h e size put =
          let n : query_refusal (report k) (table_from_bytes table) ≡ 0 = sym refusal_is ∙ none in
          let front : b ≡ report_bytes (report_of (table_from_bytes table) k) ++ drop report_length buffer =
          put
          ∙ copied_front buffer (report_bytes r) (omega arith)
          ∙ ap (λ (i : ℕ). report_bytes r ++ drop i buffer) size
          ∙ ap (λ (x : ReportAnswer). report_bytes x ++ drop report_length buffer) report_is
          in
          rw (eq-eqb (length table) table_length whole, n, le-ltb (length buffer) report_length h, e, front)

-- ---- a backlog

pub backlog_other : (table buffer : List ℕ) (a : ℕ) → (length table ≡ table_length → ⊥) → a ≡ answer_of 1 0 → buffer_outcome a buffer ≡ host_backlog table buffer
unfolding host_backlog when◌then◌else◌
backlog_other table buffer a h e = rw (ne_eqb (length table) table_length h, e)

pub backlog_made : (table buffer : List ℕ) (a n size : ℕ) (b : List ℕ) (before : Table) → length table ≡ table_length → before ≡ table_from_bytes table
    → backlog_outcome n size b ≡ backlog_of before buffer → a ≡ answer_of n size → buffer_outcome a b ≡ host_backlog table buffer
unfolding host_backlog when◌then◌else◌
backlog_made table buffer a n size b before whole decoded made answer =
    rw (eq-eqb (length table) table_length whole, answer) (ap buffer_outcome_of (made ∙ ap (λ (t : Table). backlog_of t buffer) decoded))

-- ---- a fit

pub fit_other : (table : List ℕ) (size a : ℕ) → (length table ≡ table_length → ⊥) → a ≡ answer_of 1 0 → a ≡ host_fit table size
unfolding host_fit when◌then◌else◌
fit_other table size a h e = rw (ne_eqb (length table) table_length h) e

pub fit_made : (table : List ℕ) (size a : ℕ) (before : Table) (found : FitAnswer) → length table ≡ table_length → before ≡ table_from_bytes table
    → found ≡ fit_of before size → a ≡ answer_of_fit found → a ≡ host_fit table size
unfolding host_fit when◌then◌else◌
fit_made table size a before found whole decoded made answer =
    rw (eq-eqb (length table) table_length whole) (answer ∙ ap answer_of_fit (made ∙ ap (λ (t : Table). fit_of t size) decoded))

-- ---- a new table

pub new_other : (size : ℕ) (table : List ℕ) (a : ℕ) → (length table ≡ table_length → ⊥) → a ≡ answer_of 1 0 → buffer_outcome a table ≡ host_new size table
unfolding host_new when◌then◌else◌
new_other size table a h e = rw (ne_eqb (length table) table_length h, e)

pub new_made : (size : ℕ) (table : List ℕ) (a n : ℕ) (t : Table) (b : List ℕ) → length table ≡ table_length → n ≡ new_refusal size → t ≡ new_table size → a ≡ answer_of n 0 → b ≡ table_bytes_after n t table → buffer_outcome a b ≡ host_new size table
unfolding host_new when◌then◌else◌
new_made size table a n t b whole call_refusal call_made answer stored = rw (eq-eqb (length table) table_length whole, answer, stored, call_refusal, call_made)
