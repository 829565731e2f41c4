-- Definitions that must be believed: the bench run, from a pattern file to its text (document 01, "The bench run").
use Rattle.std.specs.Prelude.{not, List, [], ◌∷◌, ◌++◌, ℕ, ◌+◌, ◌*◌, eqb, ltb, length, drop, Result, Ok, Err}
use Rattle.common.specs.Refusals.{◌gives◌, unless, refusal_by, refusal_number}
use Rattle.common.specs.declared.refusals.Refusal.{Refusal}
use Rattle.common.specs.Choice.{when◌then◌else◌}
use Rattle.queries.specs.Queries.{report_of}
use Rattle.supervisor.specs.Calls.{Call, change, load, refusal, after_call}
use Rattle.system.specs.System.{System, system, slot_of}
use Rattle.table.specs.Table.{new_table}
use Rattle.supervisor.specs.Draining.{written_bytes}
use Rattle.listing.specs.UntilStopped.{until_stopped}
use Rattle.listing.specs.Text.{refused_line, lines_of}

-- a new table for a memory of 40,960 bytes
abbrev pub new_system : List ℕ → System
new_system memory = system (new_table 40960) memory

-- the file is loaded at slot 0, location 0
abbrev pub load_call : List ℕ → Call
load_call file = change 0 (load (record { 0 = 0 }) file)

-- and then its rounds are made, 1,000 at most
unfoldable pub after_bench_rounds : List ℕ → List ℕ → System
after_bench_rounds file memory = until_stopped 1000 (after_call (load_call file) (new_system memory))

-- the number that refuses the file, 0 for none
unfoldable pub file_refusal : List ℕ → List ℕ → ℕ
file_refusal file memory =
    refusal_by
    (ltb 36897 (length file) gives 6
    ∷ not (eqb (refusal (load_call file) (new_system memory)) 0) gives refusal (load_call file) (new_system memory)
    ∷ [])

-- the slot is reported on first, and then drained: draining takes status 4 away
unfoldable pub lines_after : System → List ℕ
lines_after x = lines_of (report_of x.table 0) (written_bytes (slot_of x 0) x.memory)

-- the text: the two lines, or the one of a refused file
unfoldable pub text_of : List ℕ → List ℕ → List ℕ
text_of file memory =
    when eqb (file_refusal file memory) 0 then lines_after (after_bench_rounds file memory) else refused_line (file_refusal file memory)

-- the memory afterwards: as the rounds leave it, since a drain changes no byte of it; as it was where the file is refused
unfoldable pub memory_after : List ℕ → List ℕ → List ℕ
memory_after file memory = when eqb (file_refusal file memory) 0 then (after_bench_rounds file memory).memory else memory

-- the length of the longest text, 12,326: the first line with its newline, `out`, 4,096 bytes of output as fields, a newline
abbrev pub longest_text : ℕ
longest_text = 34 + 3 + 4096 * 3 + 1

-- what a listing answers and leaves, as one value
pub record ListingOutcome : Type 0 where
  pub refusal : ℕ
  pub size : ℕ
  pub memory : List ℕ
  pub text : List ℕ

abbrev pub listing_outcome : ℕ → ℕ → List ℕ → List ℕ → ListingOutcome
listing_outcome n size memory text = record { refusal = n; size = size; memory = memory; text = text }

-- and of what the code answers, the length of the text: a refused listing has none
abbrev pub listing_outcome_in : Result ℕ Refusal → List ℕ → List ℕ → ListingOutcome
listing_outcome_in (Ok size) memory text = listing_outcome 0 size memory text
listing_outcome_in (Err refusal) memory text = listing_outcome (refusal_number refusal) 0 memory text

-- a listing that has no room for the longest text, or another memory, is refused and changes nothing; else the text stands at the
-- front of the buffer and the rest is left
unfoldable pub listing_of : List ℕ → List ℕ → List ℕ → ListingOutcome
listing_of file memory text =
    unless (λ n. listing_outcome n 0 memory text)
    (ltb (length text) longest_text gives 16
    ∷ not (eqb (length memory) 40960) gives 2
    ∷ [])
    (listing_outcome 0 (length (text_of file memory)) (memory_after file memory) (text_of file memory ++ drop (length (text_of file memory)) text))
