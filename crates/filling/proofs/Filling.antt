-- A read into the rest of a buffer: what stands at the front grows by what was read.
use Rattle.std.proofs.Common.{◌≡◌, ◌∙◌, ◌++◌, ◌+◌, ◌≤◌, List, ap, arith, length, length-take-le, refl, subst, sym, take, ℕ}
use Rattle.std.proofs.Math.Seq.{take-append-add}
use Rattle.std.proofs.lemmas.List.{take-take}
use Rattle.std.proofs.lemmas.Slice.{take-put_mid}
use borrow.Rule.Slice.PartMut.{put_mid}

-- xs was filled up to f, and n bytes of ys were read behind that
pub take-put_mid-more : (f k n : ℕ) (xs ys : List ℕ) → f ≤ length xs → n ≤ length ys → take (f + n) (put_mid f k xs ys) ≡ take f xs ++ take n ys
take-put_mid-more f k n xs ys within fits =
    let all = put_mid f k xs ys in
    let front = length-take-le f xs within in
    let cut : take (f + n) all ≡ take (f + n) (take (f + length ys) all) = sym (take-take (f + n) (f + length ys) all (omega arith)) in
    let whole : take (f + n) (take (f + length ys) all) ≡ take (f + n) (take f xs ++ ys) = ap (take (f + n)) (take-put_mid f k xs ys (f + length ys) refl within) in
    cut ∙ whole ∙ subst (λ m. take (m + n) (take f xs ++ ys) ≡ take f xs ++ take n ys) front (take-append-add (take f xs) ys n)
