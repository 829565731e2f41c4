-- `pattern::frame::RecordWriter::put`: mark, length and body, each where the one before it ends.
use Prim.Native.Nat.{ℕ, ◌+◌, ◌≤◌}
use lib.ListN.{length, length-append}
use mathlib.Core.List.{List, [], ◌∷◌, ◌++◌, append-nil}
use mathlib.Core.Path.{refl, ap, ◌∙◌}
use native.Mathlib.Omega.{arith}
use Rattle.slices.specs.Numbers.{u16_bytes}
use Rattle.slices.specs.PieceLaws.{copied_each_law}
use Rattle.slices.specs.Slices.{copied}
use Rattle.pattern.specs.Frame.{frame_length, mark_number, record_of}
use Rattle.pattern.proofs.frame.RecordWriter.put.Goals as goal

pub returns-clause-buffer_after : goal.returns-clause-buffer_after
unfolding record_of
returns-clause-buffer_after c = let d = c.args.self.now.buffer.now in
    let at = c.args.self.now.at in
    let m = mark_number c.args.mark in
    let body = c.args.body.now in
    let room : at + frame_length + length body ≤ length d = c.requires.body_in_bounds in
    rw (c.copy-2.ensures, c.put_u16.ensures, c.copy.ensures, c.byte.ensures)
    (copied_each_law ((at, 0x50 ∷ m ∷ []) ∷ (at + 2, u16_bytes (length body)) ∷ (at + frame_length, body) ∷ []) d at (refl, (refl, (omega arith, tt))) (simp length-append (omega arith))
    ∙ ap (λ (l : List ℕ). copied d at ((0x50 ∷ m ∷ u16_bytes (length body)) ++ l)) (append-nil body))
