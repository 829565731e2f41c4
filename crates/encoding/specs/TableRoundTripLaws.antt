-- Laws that the checker has shown: every table has its 388 bytes, every 388 bytes are a table, and each way leads back. So each table
-- has exactly one form as bytes.
use Rattle.std.specs.Prelude.{List, [], ◌∷◌, ◌++◌, map, ◌≡◌, refl, ℕ, zero, suc, ◌+◌, ◌*◌, ◌≤◌, length, take, drop}
use Rattle.std.proofs.Common.{sym, ap, ◌∙◌, arith, eq-eqb, length-append, length-drop, take-append-drop, take_at, drop_at, drop-drop, length-take-le}
use Rattle.common.specs.Choice.{when◌then◌else◌}
use Rattle.slices.specs.SliceLaws.{bytes_take, bytes_drop}
use Rattle.slices.specs.Numbers.{u32_bytes, u32_at}
use Rattle.slices.specs.NumberLaws.{u16_decoded, u32_decoded, u16_encoded, u32_encoded}
use Rattle.slices.specs.PieceLaws.{part_tabulated, parts_concat}
use Rattle.slices.specs.Slices.{AllBytes, part_of, concat, tabulate}
use Rattle.table.specs.FreeBytes.{counted}
use Rattle.table.specs.declared.table.Partition.{Partition}
use Rattle.table.specs.declared.table.Slot.{Slot}
use Rattle.table.specs.declared.table.Table.{Table}
use Rattle.encoding.specs.StateEncoding.{state_length, state_bytes, state_from_bytes}
use Rattle.encoding.specs.StateRoundTripLaws.{StateShaped, state_shaped, state_length_law, state_decoded, state_encoded}
use Rattle.encoding.specs.TableEncoding.{partition_length, slot_length, slots_offset, table_length, partition_bytes, slot_bytes, head_bytes, table_bytes, stored_table, partition_from_bytes, slot_from_bytes, slots_from_bytes, table_from_bytes}

-- a table has eight slots, and each has a state of seven registers and eight return addresses: in the code by their types
abbrev pub SlotsShaped : List Slot → Type 0
SlotsShaped [] = Unit {0}
SlotsShaped (s ∷ ss) = StateShaped s.state × SlotsShaped ss

pub record TableShaped (t : Table) : Type 0 where
  pub eight : length t.slots ≡ 8
  pub all : SlotsShaped t.slots

-- counting the free bytes leaves the slots
pub counted_shaped : (t : Table) → TableShaped t → TableShaped (counted t)
counted_shaped t h = record { eight = h.eight; all = h.all }

-- ---- a slot

pub partition_length_law : (p : Partition) → length (partition_bytes p) ≡ partition_length
unfolding partition_bytes
partition_length_law p = refl

pub slot_length_law : (s : Slot) → StateShaped s.state → length (slot_bytes s) ≡ slot_length
unfolding slot_bytes
slot_length_law s h = length-append (partition_bytes s.partition) (state_bytes s.state) ∙ (omega (arith, partition_length_law s.partition, state_length_law s.state h))

-- a partition's bytes hold it, whatever follows them
partition_decoded : (p : Partition) (rest : List ℕ) → partition_from_bytes (partition_bytes p ++ rest) ≡ p
unfolding partition_from_bytes partition_bytes
partition_decoded p rest =
    λ j.
    record {
      base = record { 0 = u32_decoded p.base.0 [] j };
      layout =
          record {
            window = u16_decoded p.layout.window [] j;
            input = u16_decoded p.layout.input [] j;
            output = u16_decoded p.layout.output [] j;
            locked = u16_decoded p.layout.locked [] j;
          };
      quantum = p.quantum;
    }

slot_decoded : (s : Slot) → StateShaped s.state → slot_from_bytes (slot_bytes s) ≡ s
unfolding slot_from_bytes slot_bytes
slot_decoded s h =
    let p : partition_from_bytes (partition_bytes s.partition ++ state_bytes s.state) ≡ s.partition = partition_decoded s.partition (state_bytes s.state) in
    let z : state_from_bytes (drop partition_length (partition_bytes s.partition ++ state_bytes s.state)) ≡ s.state =
    ap state_from_bytes (drop_at (partition_bytes s.partition) (state_bytes s.state) partition_length (partition_length_law s.partition)) ∙ state_decoded s.state h
    in
    λ j. record { partition = p j; state = z j }

partition_encoded : (l : List ℕ) → partition_length ≤ length l → AllBytes l → partition_bytes (partition_from_bytes l) ≡ take partition_length l
unfolding partition_bytes partition_from_bytes
partition_encoded l h small =
    (λ j.
    concat (
    u32_encoded l small 0 (omega arith) j
    ∷ u16_encoded l small 4 (omega arith) j
    ∷ u16_encoded l small 6 (omega arith) j
    ∷ u16_encoded l small 8 (omega arith) j
    ∷ u16_encoded l small 10 (omega arith) j
    ∷ part_tabulated 1 l 12 (omega arith) j
    ∷ []
    ))
    ∙ parts_concat l 0 (4 ∷ 2 ∷ 2 ∷ 2 ∷ 2 ∷ 1 ∷ [])

slot_encoded : (l : List ℕ) → length l ≡ slot_length → AllBytes l → slot_bytes (slot_from_bytes l) ≡ l
unfolding slot_bytes slot_from_bytes
slot_encoded l h small =
    let r : length (drop partition_length l) ≡ state_length = length-drop partition_length l ∙ (omega arith) in
    let p : partition_bytes (partition_from_bytes l) ≡ take partition_length l = partition_encoded l (omega arith) small in
    let z : state_bytes (state_from_bytes (drop partition_length l)) ≡ drop partition_length l = state_encoded (drop partition_length l) r (bytes_drop partition_length l small) in
    (λ j. p j ++ z j) ∙ take-append-drop partition_length l

-- ---- slots, one behind the other

-- the n slots from the front of l on
abbrev slots_in : ℕ → List ℕ → List Slot
slots_in n l = tabulate n (λ k. slot_from_bytes (part_of l (slot_length * k) slot_length))

-- slots behind so many bytes are those of the rest
slots_behind : (n at : ℕ) (l : List ℕ) → tabulate n (λ k. slot_from_bytes (part_of l (at + slot_length * k) slot_length)) ≡ slots_in n (drop at l)
slots_behind n at l = λ j. tabulate n (λ k. slot_from_bytes (take slot_length (sym (drop-drop (slot_length * k) at l) j)))

-- the first slot, and the others
slots_more : (n : ℕ) (l : List ℕ) → slots_in (suc n) l ≡ slot_from_bytes (take slot_length l) ∷ slots_in n (drop slot_length l)
slots_more n l =
    let location : (k : ℕ) → slot_length * suc k ≡ slot_length + slot_length * k = λ k. omega arith in
    let others : tabulate n (λ k. slot_from_bytes (part_of l (slot_length * suc k) slot_length)) ≡ slots_in n (drop slot_length l) =
    (λ j. tabulate n (λ k. slot_from_bytes (part_of l (location k j) slot_length))) ∙ slots_behind n slot_length l
    in
    ap (λ (ss : List Slot). slot_from_bytes (take slot_length l) ∷ ss) others

slots_length : (ss : List Slot) → SlotsShaped ss → length (concat (map slot_bytes ss)) ≡ slot_length * length ss
slots_length [] h = refl
slots_length (s ∷ ss) h =
    length-append (slot_bytes s) (concat (map slot_bytes ss)) ∙ (omega (arith, slot_length_law s h.0, slots_length ss h.1))

slots_decoded : (ss : List Slot) → SlotsShaped ss → slots_in (length ss) (concat (map slot_bytes ss)) ≡ ss
slots_decoded [] h = refl
slots_decoded (s ∷ ss) h =
    let n : length (slot_bytes s) ≡ slot_length = slot_length_law s h.0 in
    let first : slot_from_bytes (take slot_length (slot_bytes s ++ concat (map slot_bytes ss))) ≡ s =
    ap slot_from_bytes (take_at (slot_bytes s) (concat (map slot_bytes ss)) slot_length n) ∙ slot_decoded s h.0
    in
    let others : slots_in (length ss) (drop slot_length (slot_bytes s ++ concat (map slot_bytes ss))) ≡ ss =
    ap (slots_in (length ss)) (drop_at (slot_bytes s) (concat (map slot_bytes ss)) slot_length n) ∙ slots_decoded ss h.1
    in
    slots_more (length ss) (slot_bytes s ++ concat (map slot_bytes ss)) ∙ (λ j. first j ∷ others j)

slots_encoded : (n : ℕ) (l : List ℕ) → length l ≡ slot_length * n → AllBytes l → concat (map slot_bytes (slots_in n l)) ≡ l
slots_encoded zero [] h small = refl
slots_encoded zero (x ∷ xs) h small = absurd (omega arith)
slots_encoded (suc n) l h small =
    let first : slot_bytes (slot_from_bytes (take slot_length l)) ≡ take slot_length l =
    slot_encoded (take slot_length l) (length-take-le slot_length l (omega arith)) (bytes_take slot_length l small)
    in
    let others : concat (map slot_bytes (slots_in n (drop slot_length l))) ≡ drop slot_length l =
    slots_encoded n (drop slot_length l) (length-drop slot_length l ∙ (omega arith)) (bytes_drop slot_length l small)
    in
    ap (λ (ss : List Slot). concat (map slot_bytes ss)) (slots_more n l) ∙ (λ j. first j ++ others j) ∙ take-append-drop slot_length l

pub slots_shaped : (n : ℕ) (f : ℕ → List ℕ) → SlotsShaped (tabulate n (λ k. slot_from_bytes (f k)))
unfolding slot_from_bytes
slots_shaped zero f = tt
slots_shaped (suc n) f = (state_shaped (drop partition_length (f 0)), slots_shaped n (λ k. f (suc k)))

-- ---- the table

table_head_length : (t : Table) → length (head_bytes t) ≡ slots_offset
unfolding head_bytes
table_head_length t = refl

-- what is stored in a buffer of a table's length
pub stored_whole : (buffer : List ℕ) (t : Table) → length buffer ≡ table_length → stored_table buffer t ≡ table_bytes t
unfolding stored_table when◌then◌else◌
stored_whole buffer t e = rw (eq-eqb _ _ e)

pub table_length_law : (t : Table) → TableShaped t → length (table_bytes t) ≡ table_length
unfolding table_bytes
table_length_law t h =
    length-append (head_bytes t) (concat (map slot_bytes t.slots)) ∙ (omega (arith, table_head_length t, slots_length t.slots h.all, h.eight))

-- a table's bytes hold that table
pub table_decoded : (t : Table) → TableShaped t → table_from_bytes (table_bytes t) ≡ t
unfolding table_from_bytes table_bytes head_bytes
table_decoded t h =
    let l : List ℕ = concat (map slot_bytes t.slots) in
    let ss : slots_from_bytes (head_bytes t ++ l) ≡ t.slots =
    slots_behind 8 slots_offset (head_bytes t ++ l)
    ∙ ap (λ (k : ℕ). slots_in k l) (sym h.eight)
    ∙ slots_decoded t.slots h.all
    in
    λ j. record { size = u32_decoded t.size [] j; free = u32_decoded t.free [] j; widest = u32_decoded t.widest [] j; slots = ss j }

-- so many bytes are those of the table that they hold
pub table_encoded : (l : List ℕ) → length l ≡ table_length → AllBytes l → table_bytes (table_from_bytes l) ≡ l
unfolding table_from_bytes table_bytes head_bytes
table_encoded l h small =
    let first : concat (u32_bytes (u32_at l 0) ∷ u32_bytes (u32_at l 4) ∷ u32_bytes (u32_at l 8) ∷ []) ≡ take slots_offset l =
    (λ j. concat (u32_encoded l small 0 (omega arith) j ∷ u32_encoded l small 4 (omega arith) j ∷ u32_encoded l small 8 (omega arith) j ∷ []))
    ∙ parts_concat l 0 (4 ∷ 4 ∷ 4 ∷ [])
    in
    let others : concat (map slot_bytes (slots_from_bytes l)) ≡ drop slots_offset l =
    ap (λ (ss : List Slot). concat (map slot_bytes ss)) (slots_behind 8 slots_offset l)
    ∙ slots_encoded 8 (drop slots_offset l) (length-drop slots_offset l ∙ (omega arith)) (bytes_drop slots_offset l small)
    in
    (λ j. first j ++ others j) ∙ take-append-drop slots_offset l

-- what bytes hold has the lengths of its type
pub table_shaped : (l : List ℕ) → TableShaped (table_from_bytes l)
unfolding table_from_bytes
table_shaped l = record { eight = refl; all = slots_shaped 8 (λ k. part_of l (slots_offset + slot_length * k) slot_length) }

-- two tables of the same bytes are one, and so are two buffers of the same table
pub table_once : (t u : Table) → TableShaped t → TableShaped u → table_bytes t ≡ table_bytes u → t ≡ u
table_once t u h k e = sym (table_decoded t h) ∙ ap table_from_bytes e ∙ table_decoded u k

pub bytes_once : (l m : List ℕ) → length l ≡ table_length → length m ≡ table_length → AllBytes l → AllBytes m → table_from_bytes l ≡ table_from_bytes m → l ≡ m
bytes_once l m h k small few e = sym (table_encoded l h small) ∙ ap table_bytes e ∙ table_encoded m k few
