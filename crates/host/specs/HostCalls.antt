-- Definitions that must be believed: what a host's calls answer, and what they leave in the buffers that the host lends. A table is its
-- bytes (TableEncoding); what a call does to it is crate supervisor's `refusal` and `after_call`.
use Rattle.std.specs.Prelude.{not, List, [], ◌∷◌, ◌++◌, ℕ, ◌+◌, ◌*◌, eqb, ltb, length, drop, Result, Ok, Err}
use Rattle.common.specs.Choice.{when◌then◌else◌}
use Rattle.common.specs.Refusals.{◌gives◌, refusal_by}
use Rattle.common.specs.declared.refusals.Refusal.{Refusal}
use Rattle.queries.specs.Queries.{report, query_refusal, ReportAnswer, report_of, BacklogOutcome, backlog_of, FitAnswer, fit_of}
use Rattle.supervisor.specs.Calls.{Call, refusal, after_call, drained_buffer}
use Rattle.system.specs.System.{System, system}
use Rattle.table.specs.Table.{new_refusal, new_table}
use Rattle.table.specs.declared.table.Table.{Table}
use Rattle.slices.specs.Numbers.{u16_bytes}
use Rattle.slices.specs.Slices.{concat}
use Rattle.encoding.specs.TableEncoding.{table_from_bytes, table_bytes, table_length}

-- an answer: the refusal, 0 for none, and how many bytes were handed over, 0 where none are
abbrev pub answer_of : ℕ → ℕ → ℕ
answer_of refusal count = refusal * 65536 + count

-- the count in an answer of the code, whose refusal is `refusal_in` it
abbrev pub count_given : Result ℕ Refusal → ℕ
count_given (Ok count) = count
count_given (Err refusal) = 0

-- the table and the memory that a host lends
abbrev pub lent_system : List ℕ → List ℕ → System
lent_system table memory = system (table_from_bytes table) memory

-- the table's bytes after a call: those of the table that it came to, or left as they are by a refusal
unfoldable pub table_bytes_after : ℕ → Table → List ℕ → List ℕ
table_bytes_after refusal t bytes = when eqb refusal 0 then table_bytes t else bytes

-- ---- a new table

-- what a call answers, and what its buffer holds afterwards
pub record BufferOutcome : Type 0 where
  pub answer : ℕ
  pub buffer : List ℕ

abbrev pub buffer_outcome : ℕ → List ℕ → BufferOutcome
buffer_outcome answer buffer = record { answer = answer; buffer = buffer }

-- a refusal leaves the buffer: a host is given no all-zero table
unfoldable pub host_new : ℕ → List ℕ → BufferOutcome
host_new size table =
    when eqb (length table) table_length
    then buffer_outcome (answer_of (new_refusal size) 0) (table_bytes_after (new_refusal size) (new_table size) table)
    else buffer_outcome (answer_of 1 0) table

-- ---- calls with a table and a memory

-- what a host holds between its calls: the table's bytes and the memory
pub record HostBuffers : Type 0 where
  pub table : List ℕ
  pub memory : List ℕ

-- both buffers as one value
abbrev pub host_buffers : List ℕ → List ℕ → HostBuffers
host_buffers table memory = record { table = table; memory = memory }

-- the system that these buffers hold
abbrev pub system_of : HostBuffers → System
system_of h = lent_system h.table h.memory

-- a buffer of another length is no sound table: 1, and everything is left
unfoldable pub host_after_call : Call → HostBuffers → HostBuffers
host_after_call c h =
    when eqb (length h.table) table_length
    then host_buffers (table_bytes_after (refusal c (system_of h)) (after_call c (system_of h)).table h.table) (after_call c (system_of h)).memory
    else h

-- what a call answers, and what table and memory hold afterwards
pub record HostOutcome : Type 0 where
  pub answer : ℕ
  pub after : HostBuffers

abbrev pub host_outcome : ℕ → List ℕ → List ℕ → HostOutcome
host_outcome answer table memory = record { answer = answer; after = host_buffers table memory }

-- the answer has the refusal and that count; what is left is `host_after_call`
unfoldable pub host_outcome_of : Call → ℕ → HostBuffers → HostOutcome
host_outcome_of c count h =
    record {
      answer = when eqb (length h.table) table_length then answer_of (refusal c (system_of h)) count else answer_of 1 0;
      after = host_after_call c h;
    }

-- the lent buffer after a drain
unfoldable pub host_drained_buffer : List ℕ → List ℕ → ℕ → List ℕ → List ℕ
host_drained_buffer table memory k buffer = when eqb (length table) table_length then drained_buffer (lent_system table memory) k buffer else buffer

-- ---- a report

-- status, counter, seven registers, PSU with Sense, PSL
unfoldable pub report_bytes : ReportAnswer → List ℕ
report_bytes r = concat ((r.status ∷ []) ∷ u16_bytes r.counter ∷ r.registers ∷ (r.psu ∷ r.psl ∷ []) ∷ [])

-- how many bytes these are
abbrev pub report_length : ℕ
report_length = 12

-- what refuses a report: the table's bytes, then the report itself, then a buffer that is too short
unfoldable pub host_report_refusal : List ℕ → ℕ → ℕ → ℕ
host_report_refusal table k room =
    refusal_by
    (not (eqb (length table) table_length) gives 1
    ∷ not (eqb (query_refusal (report k) (table_from_bytes table)) 0) gives query_refusal (report k) (table_from_bytes table)
    ∷ ltb room report_length gives 16
    ∷ [])

-- the report at the buffer's front, the rest left
unfoldable pub host_report : List ℕ → ℕ → List ℕ → BufferOutcome
host_report table k buffer =
    buffer_outcome
    (answer_of (host_report_refusal table k (length buffer)) 0)
    (when eqb (host_report_refusal table k (length buffer)) 0 then report_bytes (report_of (table_from_bytes table) k) ++ drop report_length buffer else buffer)

-- ---- a backlog

-- the count is how many bytes of the buffer are filled
abbrev pub buffer_outcome_of : BacklogOutcome → BufferOutcome
buffer_outcome_of o = buffer_outcome (answer_of o.refusal o.size) o.buffer

-- the backlog of the table that the bytes hold; bytes of another length are no sound table: 1, and the lent buffer is left
unfoldable pub host_backlog : List ℕ → List ℕ → BufferOutcome
host_backlog table buffer =
    when eqb (length table) table_length then buffer_outcome_of (backlog_of (table_from_bytes table) buffer) else buffer_outcome (answer_of 1 0) buffer

-- ---- a fit

-- the count is the start
abbrev pub answer_of_fit : FitAnswer → ℕ
answer_of_fit a = answer_of a.refusal a.location.0

-- the fit of the table that the bytes hold; bytes of another length are no sound table: 1
unfoldable pub host_fit : List ℕ → ℕ → ℕ
host_fit table size = when eqb (length table) table_length then answer_of_fit (fit_of (table_from_bytes table) size) else answer_of 1 0
