-- Definitions that must be believed: what a host's calls on pattern files answer, and what they leave in the buffer that the host lends.
-- Reading and writing are crate pattern's `read_of`, `code_body_of`, `input_body_of`, `write_of` and `written_buffer`.
use Rattle.std.specs.Prelude.{List, ◌++◌, ℕ, ◌+◌, ◌*◌, eqb, ltb, length, drop}
use Rattle.common.specs.Choice.{when◌then◌else◌}
use Rattle.pattern.specs.Reader.{read_of, if_accepted, code_body_of, input_body_of, code_offset, input_offset}
use Rattle.pattern.specs.Parameters.{parameters_bytes, parameters_bytes_length, parameters_from_bytes}
use Rattle.pattern.specs.Writer.{write_of, written_buffer}
use Rattle.pattern.specs.Reader.{ReadResult, Accepted, Refused}
use Rattle.pattern.specs.Writer.{WriteResult}
use Rattle.pattern.specs.Writer.{Written, WriteRefused}
use Rattle.host.specs.HostCalls.{answer_of, BufferOutcome, buffer_outcome}

-- ---- reading

-- the reader's number; then 16 for a buffer that is shorter than the parameters' bytes; else these at the buffer's front, the rest left. They
-- are the same eleven in both forms, with a lock of 0 in form 1
unfoldable pub host_read : ReadResult → List ℕ → BufferOutcome
host_read (Refused n) buffer = buffer_outcome (answer_of n 0) buffer
host_read (Accepted p) buffer =
    when ltb (length buffer) parameters_bytes_length
    then buffer_outcome (answer_of 16 0) buffer
    else buffer_outcome (answer_of 0 0) (parameters_bytes p ++ drop parameters_bytes_length buffer)

-- a stretch of a file in one number: where it starts, and its length
abbrev pub stretch_of : ℕ → ℕ → ℕ
stretch_of offset n = offset * 65536 + n

-- where the bodies of `PC` and `PI` lie; 0, an empty stretch, if the file is refused
unfoldable pub code_stretch : List ℕ → ℕ
code_stretch file = if_accepted (read_of file) 0 (stretch_of (code_offset file) (length (code_body_of file)))

unfoldable pub input_stretch : List ℕ → ℕ
input_stretch file = if_accepted (read_of file) 0 (stretch_of (input_offset file) (length (input_body_of file)))

-- ---- writing

-- the count is the file's length
abbrev pub written_answer : WriteResult → ℕ
written_answer (Written n) = answer_of 0 n
written_answer (WriteRefused n) = answer_of n 0

-- the parameters come as these bytes; another length is out of range
unfoldable pub host_write : List ℕ → List ℕ → List ℕ → List ℕ → BufferOutcome
host_write parameters image input buffer =
    when eqb (length parameters) parameters_bytes_length
    then buffer_outcome (written_answer (write_of (parameters_from_bytes parameters) image input (length buffer))) (written_buffer (parameters_from_bytes parameters) image input buffer)
    else buffer_outcome (answer_of 9 0) buffer
