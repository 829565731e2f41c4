use Prim.Native.Nat.{ℕ}
use lib.ListN.{length}
use mathlib.Core.List.{List, [], ◌∷◌}
use mathlib.Core.Path.{◌≡◌, sym, ap}
use Rattle.slices.specs.Numbers.{u16_bytes}
use Rattle.slices.specs.PieceLaws.{list_tabulated}
use Rattle.slices.specs.Slices.{concat}
use Rattle.host.specs.HostCalls.{report_bytes}
use borrow.Author.Rules.{rules}
use Rattle.host.proofs.host_calls.encode_report.Goals as goal

pub returns : goal.returns
unfolding report_bytes
returns c = let l = c.args.r.registers in
    let h : length l ≡ 7 = search rules in
    let counter : c.to_be_bytes.result ≡ u16_bytes c.args.r.counter = search rules in
    rw counter (sym (ap (λ (x : List ℕ). concat ((c.args.r.status ∷ []) ∷ u16_bytes c.args.r.counter ∷ x ∷ (c.args.r.psu ∷ c.args.r.psl ∷ []) ∷ [])) (list_tabulated 7 l h)))
