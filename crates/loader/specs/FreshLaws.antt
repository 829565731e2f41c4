-- Laws that the checker has shown: the bytes of an accepted file fill its partition, and its machine is sound.
use Rattle.std.specs.Prelude.{List, ◌++◌, ◌≡◌, ℕ, zero, suc, ◌<◌, length, get_or, replicate}
use Rattle.std.proofs.Common.{ap, ◌∙◌, arith, length-append}
use Rattle.std.proofs.lemmas.List.{length-replicate}
use Rattle.common.specs.Layout.{layout_size}
use Rattle.pattern.specs.Image.{padded}
use Rattle.pattern.specs.ImageLaws.{padded_length}
use Rattle.pattern.specs.Reader.{Accepted, read_of, parameters_of, code_body_of, input_body_of}
use Rattle.pattern.specs.ReaderLaws.{code_fits, input_fits}
use Rattle.pattern.specs.declared.parameters.Parameters.{Parameters}
use Rattle.loader.specs.Fresh.{fresh_bytes}

module _ (file : List ℕ) where
  -- the bytes of an accepted file
  abbrev pub fresh_parts : Parameters → List ℕ
  fresh_parts v = padded v.layout.window (code_body_of file) ++ padded v.layout.input (input_body_of file) ++ replicate v.layout.output 0

  pub fresh_accepted : read_of file ≡ Accepted (parameters_of file) → fresh_bytes file ≡ fresh_parts (parameters_of file)
  unfolding fresh_bytes
  fresh_accepted read = rw read

  pub fresh_length : read_of file ≡ Accepted (parameters_of file) → length (fresh_bytes file) ≡ layout_size (parameters_of file).layout
  fresh_length read =
      let l = (parameters_of file).layout in
      let first : List ℕ = padded l.window (code_body_of file) in
      let second : List ℕ = padded l.input (input_body_of file) in
      let third : List ℕ = replicate l.output 0 in
      let u : length first ≡ l.window = padded_length l.window (code_body_of file) (code_fits file (parameters_of file) read) in
      let y : length second ≡ l.input = padded_length l.input (input_body_of file) (input_fits file (parameters_of file) read) in
      let z : length third ≡ l.output = length-replicate l.output 0 in
      ap length (fresh_accepted read) ∙ length-append (first ++ second) third ∙ rw (length-append first second, u, y, z)

-- zeros are addresses
pub zeros_fifteen_bits : (n i : ℕ) → get_or (replicate n 0) i 0 < 32768
zeros_fifteen_bits zero i = omega arith
zeros_fifteen_bits (suc n) zero = omega arith
zeros_fifteen_bits (suc n) (suc i) = zeros_fifteen_bits n i
