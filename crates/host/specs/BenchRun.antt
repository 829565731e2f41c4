-- Definitions that must be believed: what a host's bench run answers, and what it leaves in the memory and the buffer that the host lends.
-- The bench run is crate listing's `listing_of`.
use Rattle.std.specs.Prelude.{List, ℕ}
use Rattle.listing.specs.BenchListing.{ListingOutcome, listing_of}
use Rattle.host.specs.HostCalls.{answer_of}

-- what a bench run answers, and what memory and text hold afterwards
pub record BenchRunOutcome : Type 0 where
  pub answer : ℕ
  pub memory : List ℕ
  pub text : List ℕ

abbrev pub bench_run_outcome : ℕ → List ℕ → List ℕ → BenchRunOutcome
bench_run_outcome answer memory text = record { answer = answer; memory = memory; text = text }

-- the count is the text's length
abbrev pub bench_run_of : ListingOutcome → BenchRunOutcome
bench_run_of l = bench_run_outcome (answer_of l.refusal l.size) l.memory l.text

unfoldable pub host_listing : List ℕ → List ℕ → List ℕ → BenchRunOutcome
host_listing file memory text = bench_run_of (listing_of file memory text)
