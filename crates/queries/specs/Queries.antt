-- Definitions that must be believed: what is asked of a table, what refuses it, and what it answers. A query takes no memory and changes
-- nothing.
use Rattle.std.specs.Prelude.{List, ◌++◌, ℕ, eqb, length, drop, replicate, Result, Ok, Err}
use Rattle.common.specs.Choice.{when◌then◌else◌}
use Rattle.common.specs.Refusals.{Condition, refusal_by, refusal_number, unless}
use Rattle.common.specs.declared.places.Location.{Location}
use Rattle.common.specs.declared.refusals.Refusal.{Refusal}
use Rattle.table.specs.TableConditions.{table_conditions, loaded_slot_conditions}
use Rattle.queries.specs.Reporting.{reported_psu}
use Rattle.queries.specs.BacklogQuery.{backlog_conditions, backlog_bytes, backlog_length}
use Rattle.queries.specs.FitQuery.{fit_conditions, best_fit}
use Rattle.table.specs.Table.{slot_at}
use Rattle.queries.specs.declared.reported.Report.{Report}
use Rattle.table.specs.declared.table.Table.{Table}

-- what is asked of a table; `backlog` is given the length of its buffer, and `fit` the size of a partition
pub data Query : Type 0 where
  report : (slot : ℕ) → Query
  backlog : (room : ℕ) → Query
  fit : (size : ℕ) → Query

-- what refuses a query: the table's conditions, then its own
unfoldable pub query_conditions : Query → Table → List Condition
query_conditions (report k) t = table_conditions t ++ loaded_slot_conditions t k
query_conditions (backlog room) t = table_conditions t ++ backlog_conditions t room
query_conditions (fit size) t = table_conditions t ++ fit_conditions t size

-- the number that refuses a query, 0 if it is accepted
abbrev pub query_refusal : Query → Table → ℕ
query_refusal q t = refusal_by (query_conditions q t)

-- ---- what a report, a backlog and a fit answer

-- what a report answers, as one value: the refusal, 0 for none; status, counter, registers, PSU with Sense, PSL
pub record ReportAnswer : Type 0 where
  pub refusal : ℕ
  pub status : ℕ
  pub counter : ℕ
  pub registers : List ℕ
  pub psu : ℕ
  pub psl : ℕ

-- such an answer that refuses; one that reports
abbrev pub refused_report : ℕ → ReportAnswer
refused_report n = record { refusal = n; status = 0; counter = 0; registers = replicate 7 0; psu = 0; psl = 0 }

abbrev pub report_answer : Report → ReportAnswer
report_answer r = record { refusal = 0; status = r.status; counter = r.counter; registers = r.registers; psu = r.psu; psl = r.psl }

-- and so the code's
abbrev pub report_answer_in : Result Report Refusal → ReportAnswer
report_answer_in (Ok r) = report_answer r
report_answer_in (Err refusal) = refused_report (refusal_number refusal)

-- what is reported of a slot; a refused report is all zero
unfoldable pub report_of : Table → ℕ → ReportAnswer
report_of t k =
    when eqb (query_refusal (report k) t) 0
    then
    record {
      refusal = 0;
      status = (slot_at t k).state.status;
      counter = (slot_at t k).state.cpu.counter;
      registers = (slot_at t k).state.cpu.registers;
      psu = reported_psu (slot_at t k).state;
      psl = (slot_at t k).state.cpu.psl;
    }
    else refused_report (query_refusal (report k) t)

-- what a backlog answers and leaves, as one value
pub record BacklogOutcome : Type 0 where
  pub refusal : ℕ
  pub size : ℕ
  pub buffer : List ℕ

-- such an outcome, made of its parts
abbrev pub backlog_outcome : ℕ → ℕ → List ℕ → BacklogOutcome
backlog_outcome n size buffer = record { refusal = n; size = size; buffer = buffer }

-- and of what the code answers, how many bytes are filled, with the buffer afterwards: a refused backlog fills none
abbrev pub backlog_outcome_in : Result ℕ Refusal → List ℕ → BacklogOutcome
backlog_outcome_in (Ok size) buffer = backlog_outcome 0 size buffer
backlog_outcome_in (Err refusal) buffer = backlog_outcome (refusal_number refusal) 0 buffer

-- how many bytes are filled, and the buffer afterwards: the backlog at its front and the rest left; a refusal fills none and leaves it
unfoldable pub backlog_of : Table → List ℕ → BacklogOutcome
backlog_of t buffer =
    unless (λ n. backlog_outcome n 0 buffer)
    (query_conditions (backlog (length buffer)) t)
    (backlog_outcome 0 (backlog_length t) (backlog_bytes t ++ drop (backlog_length t) buffer))

-- what a fit answers: a refusal, 0 for none, and a start
pub record FitAnswer : Type 0 where
  pub refusal : ℕ
  pub location : Location

abbrev pub fit_answer : ℕ → ℕ → FitAnswer
fit_answer n start = record { refusal = n; location = record { 0 = start } }

-- and so the code's: a refused fit answers 0
abbrev pub fit_answer_in : Result Location Refusal → FitAnswer
fit_answer_in (Ok start) = fit_answer 0 start.0
fit_answer_in (Err refusal) = fit_answer (refusal_number refusal) 0

-- the start of the best fit for a partition of that size; a refused fit answers 0
unfoldable pub fit_of : Table → ℕ → FitAnswer
fit_of t size = unless (λ n. fit_answer n 0) (query_conditions (fit size) t) (fit_answer 0 (best_fit t size).start)
