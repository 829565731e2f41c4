-- What theorems speak of: document 01's worked cases K1 to K12 as one list, a file of the smallest length, and the edge of a
-- memory. The proof is in proofs/Cases.
use mathlib.Core.List.{List, [], ◌∷◌, ◌++◌, replicate}
use Rattle.std.specs.Prelude.{◌≡◌, ℕ, ◌≤◌, length, drop}
use Rattle.cpu.specs.Cases as machine
use Rattle.pattern.specs.Cases as pattern
use Rattle.queries.specs.Queries.{report_of}
use Rattle.supervisor.specs.Calls.{change, load, run, refusal, after_call}
use Rattle.system.specs.System.{System, system, slot_of}
use Rattle.table.specs.Table.{new_table}
use Rattle.listing.specs.Ascii.{ascii}
use Rattle.listing.specs.BenchListing.{load_call, memory_after, longest_text, listing_outcome, listing_of}

-- K10's partition has 24 bytes, and so has the memory
abbrev pub k10_before : System
k10_before = system (new_table 24) (replicate 24 0)

abbrev pub k10_loaded : System
k10_loaded = after_call (load_call pattern.k10) k10_before

abbrev pub k10_text : List ℕ
k10_text = ascii "2 0005 00 40 42 00 00 00 00 00 00\nout 42\n"

-- a file of the smallest length, 31 bytes: a window of 16 bytes, and no code
abbrev pub smallest_file : List ℕ
smallest_file = pattern.small_file 0x00 0x10 0x00 0x00

abbrev pub smallest_text : List ℕ
smallest_text = ascii "6 0010 00 00 00 00 00 00 00 00 00\nout\n"

-- a file's text, from any memory of 40,960 bytes, at the front of any buffer with room
abbrev pub Prints : List ℕ → List ℕ → Type 0
Prints file wanted =
    (memory text : List ℕ) → length memory ≡ 40960 → longest_text ≤ length text
    → listing_of file memory text ≡ listing_outcome 0 (length wanted) (memory_after file memory) (wanted ++ drop (length wanted) text)

pub record WorkedCases : Type 0 where
  -- K1 to K9 and K12
  pub instructions : machine.WorkedSteps
  -- K10's file, read and written, and the edges of a file
  pub file : pattern.WorkedFiles
  -- K10
  pub k10 : Prints pattern.k10 k10_text
  -- this empty window runs to its end, since code 00h runs (document 02, U4)
  pub empty_window : Prints smallest_file smallest_text
  -- K10's partition ends with its memory
  pub ends_with_memory : refusal (load_call pattern.k10) k10_before ≡ 0
  pub one_further : refusal (change 0 (load (record { 0 = 1 }) pattern.k10)) k10_before ≡ 12
  -- and leaves none of it free (document 02, U5)
  pub none_free : (k10_before.table.widest ≡ 24) × (k10_loaded.table.free ≡ 0) × (k10_loaded.table.widest ≡ 0)
  -- K11
  pub k11 :
      report_of (after_call (run 1) k10_loaded).table 0
      ≡ record { refusal = 0; status = 1; counter = 3; registers = 0x42 ∷ 0 ∷ 0 ∷ 0 ∷ 0 ∷ 0 ∷ 0 ∷ []; psu = 0; psl = 0x40 }
  pub k11_written : (slot_of (after_call (run 1) k10_loaded) 0).state.written ≡ 0
