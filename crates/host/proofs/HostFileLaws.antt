-- Reading and writing with the answer and the bytes stored are the host's calls.
use mathlib.Core.List.{List, ◌++◌}
use mathlib.Core.Path.{◌≡◌, ap, ◌∙◌}
use Prim.Native.Nat.{ℕ, ◌≤◌, ◌<◌}
use borrow.Author.Tests.{eq-eqb, ne_eqb, lt-ltb, le-ltb}
use native.Mathlib.Omega.{arith}
use lib.ListN.{length, drop}
use Rattle.common.specs.Choice.{when◌then◌else◌}
use Rattle.pattern.specs.Reader.{read_of}
use Rattle.pattern.specs.Parameters.{parameters_bytes, parameters_bytes_length, parameters_from_bytes}
use Rattle.pattern.specs.ParameterLaws.{parameters_bytes_length_law}
use Rattle.pattern.specs.Writer.{write_of, written_buffer}
use Rattle.pattern.specs.Reader.{ReadResult, Accepted, Refused}
use Rattle.pattern.specs.declared.parameters.Parameters.{Parameters}
use Rattle.pattern.specs.Writer.{WriteResult}
use Rattle.slices.specs.SliceLaws.{copied_front}
use Rattle.slices.specs.Slices.{copied}
use Rattle.host.specs.HostCalls.{answer_of, buffer_outcome}
use Rattle.host.specs.PatternFiles.{host_read, written_answer, host_write}

-- by the reader's answer x, which is a case y
module _ (file buffer : List ℕ) (x : ReadResult) (read : x ≡ read_of file) where
  pub read_refused : (n a : ℕ) → x ≡ Refused n → a ≡ answer_of n 0 → buffer_outcome a buffer ≡ host_read (read_of file) buffer
  unfolding host_read
  read_refused n a e answer = rw (← read, e, answer)

  module _ (v : Parameters) (e : x ≡ Accepted v) where
    pub read_short : (a : ℕ) → length buffer < parameters_bytes_length → a ≡ answer_of 16 0 → buffer_outcome a buffer ≡ host_read (read_of file) buffer
    unfolding host_read when◌then◌else◌
    read_short a h answer = rw (← read, e, lt-ltb (length buffer) parameters_bytes_length h, answer)

    pub read_made : (a : ℕ) (b : List ℕ) → parameters_bytes_length ≤ length buffer → a ≡ answer_of 0 0 → b ≡ copied buffer 0 (parameters_bytes v) → buffer_outcome a b ≡ host_read (read_of file) buffer
    unfolding host_read when◌then◌else◌
    read_made a b h answer put = rw (← read, e, le-ltb (length buffer) parameters_bytes_length h, answer, put ∙ copied_front buffer (parameters_bytes v) (omega (arith, parameters_bytes_length_law v)) ∙ ap (λ (n : ℕ). parameters_bytes v ++ drop n buffer) (parameters_bytes_length_law v))

-- by the writer's answer x
module _ (parameters image input buffer : List ℕ) where
  pub write_other : (a : ℕ) → (length parameters ≡ parameters_bytes_length → ⊥) → a ≡ answer_of 9 0 → buffer_outcome a buffer ≡ host_write parameters image input buffer
  unfolding host_write when◌then◌else◌
  write_other a h answer = rw (ne_eqb (length parameters) parameters_bytes_length h, answer)

  pub write_made : (v : Parameters) (x : WriteResult) (a : ℕ) (b : List ℕ) → length parameters ≡ parameters_bytes_length → v ≡ parameters_from_bytes parameters → x ≡ write_of v image input (length buffer) → b ≡ written_buffer v image input buffer
      → a ≡ written_answer x → buffer_outcome a b ≡ host_write parameters image input buffer
  unfolding host_write when◌then◌else◌
  write_made v x a b whole decoded written left answer =
      rw (eq-eqb (length parameters) parameters_bytes_length whole, answer ∙ ap written_answer written, left, decoded)
