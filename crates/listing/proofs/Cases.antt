-- Laws that the checker has shown, by computation: document 01's proved cases K1 to K12 as one list, a file of the smallest length,
-- and the edge of a memory.
use mathlib.Core.List.{List}
use Rattle.std.specs.Prelude.{◌≡◌, refl, ℕ, length}
use Rattle.std.proofs.Common.{◌∙◌, eq-eqb, le-ltb}
use Rattle.cpu.specs.Cases as machine
use Rattle.pattern.specs.Cases as pattern
use Rattle.pattern.specs.Reader as reader
use Rattle.loader.specs.Fresh.{fresh_machine}
use Rattle.listing.specs.BenchListing.{file_refusal, text_of, longest_text, listing_of}
use Rattle.listing.proofs.LoneLaws.{lone_text}
use Rattle.listing.specs.LoneLines.{lone_until, lone_lines}
use Rattle.common.specs.ConditionDefinitions.{condition_definitions}
use Rattle.listing.specs.CaseDefinitions.{load_definitions, lone_definitions, round_definitions}
use Rattle.listing.specs.WorkedCases.{k10_text, smallest_file, smallest_text, Prints, WorkedCases}

-- a file that any memory takes, and whose lone machine has these lines, prints them
lone_prints : (file wanted : List ℕ)
    → ((memory : List ℕ) → length memory ≡ 40960 → file_refusal file memory ≡ 0)
    → lone_lines (lone_until 1000 (reader.parameters_of file).quantum (fresh_machine file)) ≡ wanted
    → Prints file wanted
unfolding condition_definitions listing_of
lone_prints file wanted taken lone memory text h room =
    let same : text_of file memory ≡ wanted = lone_text file memory h (taken memory h) ∙ lone in
    rw (le-ltb (length text) longest_text room, eq-eqb (length memory) 40960 h, same)

k10_taken : (memory : List ℕ) → length memory ≡ 40960 → file_refusal pattern.k10 memory ≡ 0
unfolding load_definitions condition_definitions file_refusal
k10_taken memory h = rw (eq-eqb (length memory) 40960 h)

k10_lone : lone_lines (lone_until 1000 (reader.parameters_of pattern.k10).quantum (fresh_machine pattern.k10)) ≡ k10_text
unfolding lone_definitions
k10_lone = refl

smallest_taken : (memory : List ℕ) → length memory ≡ 40960 → file_refusal smallest_file memory ≡ 0
unfolding load_definitions condition_definitions file_refusal
smallest_taken memory h = rw (eq-eqb (length memory) 40960 h)

smallest_lone : lone_lines (lone_until 1000 (reader.parameters_of smallest_file).quantum (fresh_machine smallest_file)) ≡ smallest_text
unfolding lone_definitions
smallest_lone = refl

pub worked_cases : WorkedCases
unfolding round_definitions
worked_cases =
    record {
      instructions = machine.worked_steps;
      file = pattern.worked_files;
      k10 = lone_prints pattern.k10 k10_text k10_taken k10_lone;
      empty_window = lone_prints smallest_file smallest_text smallest_taken smallest_lone;
      ends_with_memory = refl;
      one_further = refl;
      none_free = (refl, refl, refl);
      k11 = refl;
      k11_written = refl;
    }
