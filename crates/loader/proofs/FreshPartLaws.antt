-- What a file puts into memory, by the reader's answer.
use Prim.Native.Nat.{ℕ, ◌+◌, ◌-◌, ◌≤◌, ◌<◌}
use mathlib.Core.List.{List}
use mathlib.Core.Path.{◌≡◌, sym, ap, ◌∙◌}
use native.Mathlib.Omega.{arith}
use lib.ListN.{length}
use Rattle.common.specs.Layout.{layout_size}
use Rattle.std.specs.Prelude.{Result, Ok, Err}
use Rattle.common.specs.declared.refusals.Refusal.{Refusal}
use Rattle.pattern.specs.Reader.{Accepted, read_result, read_of, parameters_of}
use Rattle.pattern.specs.ReaderLaws.{accepted_fact}
use Rattle.pattern.specs.declared.parameters.Parameters.{Parameters}
use Rattle.slices.specs.SliceLaws.{copied_left, copied_none}
use Rattle.slices.specs.Slices.{copied}
use Rattle.slices.proofs.StoreLaws.{part_written}
use borrow.Rule.Slice.PartMut.{put_mid}
use Rattle.loader.specs.Fresh.{fresh_bytes}
use Rattle.loader.specs.FreshLaws.{fresh_parts, fresh_accepted, fresh_length}

module _ (file memory : List ℕ) (at : ℕ) {a : Result Parameters Refusal} (read : read_result a ≡ read_of file) where
  -- a refused file
  pub put_refused : {refusal : Refusal} → a ≡ Err refusal → memory ≡ copied memory at (fresh_bytes file)
  unfolding fresh_bytes
  put_refused e = sym (rw (sym read ∙ ap read_result e) (copied_none memory at))

  module _ {v : Parameters} (e : a ≡ Ok v) where
    pub parameters_are : parameters_of file ≡ v
    parameters_are = (accepted_fact file v (sym read ∙ ap read_result e)).same

    pub read_as : read_of file ≡ Accepted (parameters_of file)
    read_as = sym read ∙ ap read_result e ∙ ap Accepted (sym parameters_are)

    -- no room
    pub put_left : length memory < at + layout_size v.layout → memory ≡ copied memory at (fresh_bytes file)
    put_left h =
        let n : length (fresh_bytes file) ≡ layout_size v.layout = fresh_length file read_as ∙ ap (λ (w : Parameters). layout_size w.layout) parameters_are in
        sym (copied_left memory at (fresh_bytes file) (omega arith))

    -- a partition that was filled
    pub put_whole : (partition : List ℕ) (size : ℕ) → size ≡ layout_size v.layout → at + size ≤ length memory → partition ≡ fresh_parts file v
        → put_mid at (at + size - at) memory partition ≡ copied memory at (fresh_bytes file)
    put_whole partition size whole room filled =
        let bytes : partition ≡ fresh_bytes file = filled ∙ ap (fresh_parts file) (sym parameters_are) ∙ sym (fresh_accepted file read_as) in
        let long : length (fresh_bytes file) ≡ layout_size v.layout = fresh_length file read_as ∙ ap (λ (w : Parameters). layout_size w.layout) parameters_are in
        part_written memory at size partition room (ap length bytes ∙ long ∙ sym whole) ∙ ap (copied memory at) bytes
