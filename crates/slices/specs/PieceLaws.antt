-- Laws that the checker has shown: pieces copied one behind the other are one copy, parts one behind the other are one part, and what a
-- loop over pieces or over elements keeps.
use Rattle.std.specs.Prelude.{ℕ, zero, suc, ◌+◌, ◌*◌, ◌≤◌, ◌<◌, List, [], ◌∷◌, ◌++◌, map, ◌≡◌, refl, length, get_or, take, drop, set}
use Rattle.std.proofs.Common.{append_assoc, append-nil, sym, ap, ◌∙◌, add-zero, mul-suc, mul-zero, add-one, arith, length-append, length-set, drop-cons, drop-drop, take-add, take_all, take_at, take-suc, take-suc-set}
use Rattle.std.proofs.Math.Seq.{drop-append-add}
use Rattle.common.specs.Totals.{total_of}
use Rattle.slices.specs.Slices.{part_of, copied, concat, tabulate}
use Rattle.slices.specs.SliceLaws.{copied_length, copied_next, copied_none}

-- ---- pieces that stand in the code one by one

-- pieces with their places, copied one after the other
abbrev pub copied_each : List ℕ → List (ℕ × List ℕ) → List ℕ
copied_each d [] = d
copied_each d (p ∷ ps) = copied_each (copied d p.0 p.1) ps

-- each piece starts where the one before it ends
abbrev pub Contiguous : ℕ → List (ℕ × List ℕ) → Type 0
Contiguous at [] = Unit {0}
Contiguous at (p ∷ ps) = (p.0 ≡ at) × Contiguous (at + length p.1) ps

abbrev pub pieces_of : List (ℕ × List ℕ) → List ℕ
pieces_of ps = concat (map (λ p. p.1) ps)

pub copied_each_law : (ps : List (ℕ × List ℕ)) (d : List ℕ) (at : ℕ) → Contiguous at ps → at + length (pieces_of ps) ≤ length d → copied_each d ps ≡ copied d at (pieces_of ps)
copied_each_law [] d at places room = sym (copied_none d at)
copied_each_law (p ∷ ps) d at places room =
    let whole : length (pieces_of (p ∷ ps)) ≡ length p.1 + length (pieces_of ps) = length-append p.1 (pieces_of ps) in
    let e : List ℕ = copied d p.0 p.1 in
    let kept : length e ≡ length d = copied_length d p.0 p.1 in
    copied_next d e _ at (at + length p.1) p.1 (pieces_of ps)
    (ap (λ (n : ℕ). copied d n p.1) places.0)
    (copied_each_law ps e (at + length p.1) places.1 (omega arith))
    refl
    (omega arith)

-- ---- parts

-- the parts of those lengths, from a place on
abbrev pub parts_of : List ℕ → ℕ → List ℕ → List (List ℕ)
parts_of s at [] = []
parts_of s at (n ∷ ns) = part_of s at n ∷ parts_of s (at + n) ns

pub parts_concat : (s : List ℕ) (at : ℕ) (ns : List ℕ) → concat (parts_of s at ns) ≡ part_of s at (total_of ns)
parts_concat s at [] = refl
parts_concat s at (n ∷ ns) =
    ap (λ (l : List ℕ). part_of s at n ++ l) (parts_concat s (at + n) ns ∙ ap (take (total_of ns)) (sym (drop-drop n at s)))
    ∙ sym (take-add n (total_of ns) (drop at s))

-- ---- pieces of one width, copied in a loop

concat_more : (ps : List (List ℕ)) (p : List ℕ) → concat (ps ++ (p ∷ [])) ≡ concat ps ++ p
concat_more [] p = append-nil p
concat_more (x ∷ xs) p = ap (λ (l : List ℕ). x ++ l) (concat_more xs p) ∙ sym (append_assoc x (concat xs) p)

map_more : {A : Type 0} (f : A → List ℕ) (xs : List A) (x : A) → map f (xs ++ (x ∷ [])) ≡ map f xs ++ (f x ∷ [])
map_more f [] x = refl
map_more f (y ∷ ys) x = ap (λ (l : List (List ℕ)). f y ∷ l) (map_more f ys x)

module _ {A : Type 0} (piece : A → List ℕ) (width : ℕ) (xs : List A) (l : List ℕ) (at : ℕ) where
  abbrev front_pieces : ℕ → List ℕ
  front_pieces k = concat (map piece (take k xs))

  -- m is l with the pieces of the first k elements from at on
  pub record PiecesPut (k : ℕ) (m : List ℕ) : Type 0 where
    pub some : k ≤ length xs
    pub kept : length m ≡ length l
    pub size : length (front_pieces k) ≡ width * k
    pub held : m ≡ copied l at (front_pieces k)

  pub pieces_none : PiecesPut 0 l
  pieces_none = record { some = omega arith; kept = refl; size = sym (mul-zero width); held = sym (copied_none l at) }

  module _ (k : ℕ) (m : List ℕ) (h : PiecesPut k m) where
    pub pieces_more : (none : A) (n : List ℕ) → k < length xs → length (piece (get_or xs k none)) ≡ width → at + width * k + width ≤ length l
        → n ≡ copied m (at + width * k) (piece (get_or xs k none)) → PiecesPut (k + 1) n
    pieces_more none n inside wide room put =
        let x : A = get_or xs k none in
        let more : front_pieces k ++ piece x ≡ front_pieces (k + 1) =
        sym (concat_more (map piece (take k xs)) (piece x))
        ∙ ap concat (sym (map_more piece (take k xs) x))
        ∙ ap (λ (ys : List A). concat (map piece ys)) (sym (take-suc xs k none inside) ∙ ap (λ (i : ℕ). take i xs) (sym (add-one k)))
        in
        let size : length (front_pieces k) ≡ width * k = h.size in
        let kept : length m ≡ length l = h.kept in
        let next : width * (k + 1) ≡ width * k + width = ap (λ (i : ℕ). width * i) (add-one k) ∙ mul-suc width k in
        record {
          some = omega arith;
          kept = ap length put ∙ copied_length m (at + width * k) (piece x) ∙ kept;
          size = sym (ap length more) ∙ length-append (front_pieces k) (piece x) ∙ (omega arith);
          held = copied_next l m n at (at + width * k) (front_pieces k) (piece x) h.held put (omega arith) (omega arith) ∙ ap (copied l at) more;
        }

    pub pieces_all : length xs ≤ k → m ≡ copied l at (concat (map piece xs))
    pieces_all past = h.held ∙ ap (λ (ys : List A). copied l at (concat (map piece ys))) (take_all k xs past)

    pub pieces_size : length xs ≤ k → length (concat (map piece xs)) ≡ width * length xs
    pieces_size past =
        let some : k ≤ length xs = h.some in
        let e : k ≡ length xs = omega arith in
        sym (ap (λ (ys : List A). length (concat (map piece ys))) (take_all k xs past)) ∙ h.size ∙ ap (λ (i : ℕ). width * i) e

-- ---- pieces of one width, read one by one

-- the i-th piece stands behind i others, whatever follows them all
pub piece_at : {A : Type 0} (piece : A → List ℕ) (width : ℕ) → ((x : A) → length (piece x) ≡ width) → (xs : List A) (rest : List ℕ) (i : ℕ) (none : A) → i < length xs
    → part_of (concat (map piece xs) ++ rest) (width * i) width ≡ piece (get_or xs i none)
piece_at piece width wide [] rest i none q = absurd (omega arith)
piece_at piece width wide (x ∷ xs) rest zero none q =
    ap (λ (n : ℕ). part_of (piece x ++ concat (map piece xs) ++ rest) n width) (mul-zero width)
    ∙ ap (take width) (append_assoc (piece x) (concat (map piece xs)) rest)
    ∙ take_at (piece x) (concat (map piece xs) ++ rest) width (wide x)
piece_at piece width wide (x ∷ xs) rest (suc i) none q =
    let place : width * suc i ≡ length (piece x) + width * i = mul-suc width i ∙ (omega (arith, wide x)) in
    ap (λ (l : List ℕ). take width (drop (width * suc i) l)) (append_assoc (piece x) (concat (map piece xs)) rest)
    ∙ ap (λ (n : ℕ). take width (drop n (piece x ++ (concat (map piece xs) ++ rest)))) place
    ∙ ap (take width) (drop-append-add (piece x) (concat (map piece xs) ++ rest) (width * i))
    ∙ piece_at piece width wide xs rest i none (omega arith)

-- ---- elements

-- a part that the list has is the list of its bytes
pub part_tabulated : (n : ℕ) (s : List ℕ) (at : ℕ) → at + n ≤ length s → tabulate n (λ i. get_or s (at + i) 0) ≡ part_of s at n
part_tabulated zero s at h = refl
part_tabulated (suc n) s at h =
    let first : get_or s (at + 0) 0 ≡ get_or s at 0 = ap (λ (i : ℕ). get_or s i 0) (add-zero at) in
    let place : (i : ℕ) → at + suc i ≡ suc at + i = λ i. omega arith in
    let others : tabulate n (λ i. get_or s (at + suc i) 0) ≡ part_of s (suc at) n =
    (λ j. tabulate n (λ i. get_or s (place i j) 0)) ∙ part_tabulated n s (suc at) (omega arith)
    in
    (λ j. first j ∷ others j) ∙ sym (ap (take (suc n)) (drop-cons s at 0 (omega arith)))

-- what holds of each element of a tabulated list, and of what stands past its end, holds wherever it is read
pub each_tabulated : {A : Type 0} (P : A → Type 0) (n : ℕ) (f : ℕ → A) (none : A) → P none → ((i : ℕ) → i < n → P (f i)) → (k : ℕ) → P (get_or (tabulate n f) k none)
each_tabulated P zero f none past each k = past
each_tabulated P (suc n) f none past each zero = each 0 (omega arith)
each_tabulated P (suc n) f none past each (suc k) = each_tabulated P n (λ i. f (suc i)) none past (λ i q. each (suc i) (omega arith)) k

-- and so is a list of that length
pub list_tabulated : (n : ℕ) (s : List ℕ) → length s ≡ n → s ≡ tabulate n (λ i. get_or s i 0)
list_tabulated zero [] h = refl
list_tabulated zero (x ∷ xs) h = absurd (omega arith)
list_tabulated (suc n) [] h = absurd (omega arith)
list_tabulated (suc n) (x ∷ xs) h = ap (λ (l : List ℕ). x ∷ l) (list_tabulated n xs (omega arith))

module _ {A : Type 0} where
  tabulate_more : (n : ℕ) (f : ℕ → A) → tabulate (suc n) f ≡ tabulate n f ++ (f n ∷ [])
  tabulate_more zero f = refl
  tabulate_more (suc n) f = ap (λ (l : List A). f 0 ∷ l) (tabulate_more n (λ i. f (suc i)))

  module _ (n : ℕ) (f : ℕ → A) where
    -- the first k of the n elements of l are those that f gives
    pub record TabulatedTo (k : ℕ) (l : List A) : Type 0 where
      pub some : k ≤ n
      pub whole : length l ≡ n
      pub front : take k l ≡ tabulate k f

    pub tabulated_none : (l : List A) → length l ≡ n → TabulatedTo 0 l
    tabulated_none l h = record { some = omega arith; whole = h; front = refl }

    module _ (k : ℕ) (l : List A) (h : TabulatedTo k l) where
      pub tabulated_next : (x : A) → k < n → x ≡ f k → TabulatedTo (k + 1) (set l k x)
      tabulated_next x inside it =
          let whole : length l ≡ n = h.whole in
          record {
            some = omega arith;
            whole = length-set l k x ∙ whole;
            front =
                ap (λ (i : ℕ). take i (set l k x)) (add-one k)
                ∙ take-suc-set l k x (omega arith)
                ∙ (λ j. h.front j ++ (it j ∷ []))
                ∙ sym (tabulate_more k f)
                ∙ ap (λ (i : ℕ). tabulate i f) (sym (add-one k));
          }

      pub tabulated_all : n ≤ k → l ≡ tabulate n f
      tabulated_all past =
          let whole : length l ≡ n = h.whole in
          let some : k ≤ n = h.some in
          let e : k ≡ n = omega arith in
          sym (take_all k l (omega arith)) ∙ h.front ∙ ap (λ (i : ℕ). tabulate i f) e
