-- `encoding::state_encoding::encode_state`: each field is put where the one before it ends.
use mathlib.Core.List.{[], ◌∷◌}
use mathlib.Core.Path.{◌≡◌, refl, ap, ◌∙◌}
use native.Mathlib.Omega.{arith}
use lib.ListN.{length, replicate}
use Rattle.slices.specs.SliceLaws.{copied_all}
use Rattle.slices.specs.Numbers.{u16_bytes, u16s_bytes}
use Rattle.slices.specs.NumberLaws.{u16s_length}
use Rattle.slices.specs.PieceLaws.{copied_each_law}
use Rattle.encoding.specs.StateEncoding.{state_length, state_bytes, state_from_bytes}
use Rattle.encoding.specs.StateRoundTripLaws.{StateShaped, state_length_law, state_decoded}
use borrow.Author.Rules.{rules}
use Rattle.encoding.proofs.state_encoding.encode_state.Goals as goal

pub returns : goal.returns
unfolding state_bytes
returns c = let s = c.args.state in
    let seven : length s.cpu.registers ≡ 7 = search (rules, c.well_formed) in
    let eight : length s.cpu.returns ≡ 8 = search (rules, c.well_formed) in
    let shaped : StateShaped s = record { registers = seven; returns = eight } in
    let sixteen : length (u16s_bytes s.cpu.returns) ≡ 16 = omega (arith, u16s_length s.cpu.returns) in
    let whole : length (state_bytes s) ≡ state_length = state_length_law s shaped in
    let e : c.put_u16-4.new.target ≡ state_bytes s =
    rw (c.put_u16-4.ensures, c.put_u16-3.ensures, c.put_u16-2.ensures, c.put_byte-3.ensures, c.put_u16s.ensures, c.put_byte-2.ensures, c.put_byte.ensures, c.copy.ensures, c.put_u16.ensures)
    (copied_each_law (
    (0, u16_bytes s.cpu.counter)
    ∷ (2, s.cpu.registers)
    ∷ (9, s.cpu.psu ∷ [])
    ∷ (10, s.cpu.psl ∷ [])
    ∷ (11, u16s_bytes s.cpu.returns)
    ∷ (27, s.status ∷ [])
    ∷ (28, u16_bytes s.filled)
    ∷ (30, u16_bytes s.read)
    ∷ (32, u16_bytes s.written)
    ∷ []
    ) (replicate state_length 0) 0
    (refl, (refl, (omega arith, (omega arith, (omega arith, (omega arith, (omega arith, (omega arith, (omega arith, tt)))))))))
    (omega arith)
    ∙ copied_all (replicate state_length 0) (state_bytes s) whole)
    in
    record { value = e; result_value = ap state_from_bytes e ∙ state_decoded s shaped }
