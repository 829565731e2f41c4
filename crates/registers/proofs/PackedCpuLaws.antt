-- Registers and return addresses through the view of the packed words.
use mathlib.Core.List.{List, [], ◌∷◌, ◌++◌}
use mathlib.Core.Path.{◌≡◌, refl, ap, ◌∙◌}
use Prim.Native.Nat.{ℕ, zero, suc, ◌+◌, ◌*◌, ◌/◌, ◌%◌, ◌-◌, ◌<◌, ◌≤◌}
use native.Mathlib.Omega.{arith}
use lib.ListN.{get_or, set, length}
use Rattle.common.specs.Choice.{when◌then◌else◌}
use Rattle.registers.specs.PackedCpu.{set_part, byte_at, quarter_at, quarters, register_bytes, return_quarters, in_bank_order, cpu_of}
use Rattle.registers.proofs.WordLaws.{set_part_law}
use Rattle.registers.specs.Cpu.{register_index, with_psl}
use Rattle.registers.specs.declared.packed_cpu.PackedCpu.{PackedCpu}
use Rattle.registers.specs.declared.cpu.Cpu.{Cpu}

-- a byte of the register word put in the bank in use, or R0
register_bytes_set : (x r v : ℕ) → r < 4 → v < 256 → register_bytes (set_part 8 x r v) ≡ set (register_bytes x) r v
unfolding register_bytes
register_bytes_set x zero v l b = grind arith
register_bytes_set x (suc zero) v l b = grind arith
register_bytes_set x (suc (suc zero)) v l b = grind arith
register_bytes_set x (suc (suc (suc zero))) v l b = grind arith
register_bytes_set x (suc (suc (suc (suc i)))) v l b = absurd (omega arith)

-- two bits name a register
two_bits : (rs r : ℕ) → register_index rs (r % 4) ≡ register_index rs r
unfolding register_index
two_bits rs r = let e : r % 4 % 4 ≡ r % 4 = omega arith in rw e

-- the bank in use stands first: register r is byte r, whichever bank that is
get_in_bank_order : (rs x r : ℕ) → rs < 2 → r < 4 → byte_at x r ≡ get_or (in_bank_order rs (register_bytes x)) (register_index rs r) 0
unfolding register_bytes in_bank_order register_index when◌then◌else◌
get_in_bank_order zero x zero k l = refl
get_in_bank_order zero x (suc zero) k l = refl
get_in_bank_order zero x (suc (suc zero)) k l = refl
get_in_bank_order zero x (suc (suc (suc zero))) k l = refl
get_in_bank_order zero x (suc (suc (suc (suc i)))) k l = absurd (omega arith)
get_in_bank_order (suc zero) x zero k l = refl
get_in_bank_order (suc zero) x (suc zero) k l = refl
get_in_bank_order (suc zero) x (suc (suc zero)) k l = refl
get_in_bank_order (suc zero) x (suc (suc (suc zero))) k l = refl
get_in_bank_order (suc zero) x (suc (suc (suc (suc i)))) k l = absurd (omega arith)
get_in_bank_order (suc (suc rs)) x r k l = absurd (omega arith)

pub get_register : (rs x r : ℕ) → rs < 2 → byte_at x (r % 4) ≡ get_or (in_bank_order rs (register_bytes x)) (register_index rs r) 0
get_register rs x r k =
    get_in_bank_order rs x (r % 4) k (omega arith) ∙ ap (λ (i : ℕ). get_or (in_bank_order rs (register_bytes x)) i 0) (two_bits rs r)

set_in_bank_order : (rs x r v : ℕ) → rs < 2 → r < 4 → in_bank_order rs (set (register_bytes x) r v) ≡ set (in_bank_order rs (register_bytes x)) (register_index rs r) v
unfolding register_bytes in_bank_order register_index when◌then◌else◌
set_in_bank_order zero x zero v k l = refl
set_in_bank_order zero x (suc zero) v k l = refl
set_in_bank_order zero x (suc (suc zero)) v k l = refl
set_in_bank_order zero x (suc (suc (suc zero))) v k l = refl
set_in_bank_order zero x (suc (suc (suc (suc i)))) v k l = absurd (omega arith)
set_in_bank_order (suc zero) x zero v k l = refl
set_in_bank_order (suc zero) x (suc zero) v k l = refl
set_in_bank_order (suc zero) x (suc (suc zero)) v k l = refl
set_in_bank_order (suc zero) x (suc (suc (suc zero))) v k l = refl
set_in_bank_order (suc zero) x (suc (suc (suc (suc i)))) v k l = absurd (omega arith)
set_in_bank_order (suc (suc rs)) x r v k l = absurd (omega arith)

pub set_register : (rs x r v : ℕ) → rs < 2 → v < 256 → in_bank_order rs (register_bytes (set_part 8 x (r % 4) v)) ≡ set (in_bank_order rs (register_bytes x)) (register_index rs r) v
set_register rs x r v k b =
    ap (in_bank_order rs) (register_bytes_set x (r % 4) v (omega arith) b)
    ∙ set_in_bank_order rs x (r % 4) v k (omega arith)
    ∙ ap (λ (i : ℕ). set (in_bank_order rs (register_bytes x)) i v) (two_bits rs r)

-- the banks exchanged in the word, and RS with them
pub swap_twice : (rs rs' x : ℕ) → rs < 2 → rs' < 2 → (rs' ≡ rs → ⊥) → in_bank_order rs' (in_bank_order 1 (register_bytes x)) ≡ in_bank_order rs (register_bytes x)
unfolding register_bytes in_bank_order when◌then◌else◌
swap_twice zero zero x p q n = absurd (n refl)
swap_twice zero (suc zero) x p q n = refl
swap_twice (suc zero) zero x p q n = refl
swap_twice (suc zero) (suc zero) x p q n = absurd (n refl)
swap_twice zero (suc (suc r)) x p q n = absurd (omega arith)
swap_twice (suc zero) (suc (suc r)) x p q n = absurd (omega arith)
swap_twice (suc (suc r)) rs' x p q n = absurd (omega arith)

-- with any byte above the seven
pub swapped_registers : (x u : ℕ) → register_bytes (x % 256 + x / 4294967296 % 16777216 * 256 + (x / 256 % 16777216 + u * 16777216) * 4294967296) ≡ in_bank_order 1 (register_bytes x)
unfolding register_bytes in_bank_order when◌then◌else◌
swapped_registers x u = grind arith

pub swap_banks_law : (x : ℕ) → register_bytes (x % 256 + x / 4294967296 % 16777216 * 256 + x / 256 % 16777216 * 4294967296) ≡ in_bank_order 1 (register_bytes x)
unfolding register_bytes in_bank_order when◌then◌else◌
swap_banks_law x = grind arith

pub swapped_psu : (x u : ℕ) → u < 256 → byte_at (x % 256 + x / 4294967296 % 16777216 * 256 + (x / 256 % 16777216 + u * 16777216) * 4294967296) 7 ≡ u
swapped_psu x u l = omega arith

pub unswapped_registers : (x u : ℕ) → register_bytes (x % 72057594037927936 + u * 72057594037927936) ≡ in_bank_order 0 (register_bytes x)
unfolding register_bytes in_bank_order when◌then◌else◌
unswapped_registers x u = grind arith

pub unswapped_psu : (x u : ℕ) → u < 256 → byte_at (x % 72057594037927936 + u * 72057594037927936) 7 ≡ u
unswapped_psu x u l = omega arith

-- return addresses: four in each word
pub get_low_return : (x y i : ℕ) → i < 4 → quarter_at x i ≡ get_or (return_quarters x y) i 0
unfolding return_quarters
get_low_return x y zero l = refl
get_low_return x y (suc zero) l = refl
get_low_return x y (suc (suc zero)) l = refl
get_low_return x y (suc (suc (suc zero))) l = refl
get_low_return x y (suc (suc (suc (suc i)))) l = absurd (omega arith)

pub get_high_return : (x y i : ℕ) → 4 ≤ i → i < 8 → quarter_at y (i - 4) ≡ get_or (return_quarters x y) i 0
unfolding return_quarters
get_high_return x y zero g l = absurd (omega arith)
get_high_return x y (suc zero) g l = absurd (omega arith)
get_high_return x y (suc (suc zero)) g l = absurd (omega arith)
get_high_return x y (suc (suc (suc zero))) g l = absurd (omega arith)
get_high_return x y (suc (suc (suc (suc zero)))) g l = refl
get_high_return x y (suc (suc (suc (suc (suc zero))))) g l = refl
get_high_return x y (suc (suc (suc (suc (suc (suc zero)))))) g l = refl
get_high_return x y (suc (suc (suc (suc (suc (suc (suc zero))))))) g l = refl
get_high_return x y (suc (suc (suc (suc (suc (suc (suc (suc i)))))))) g l = absurd (omega arith)

pub set_low_return : (x y i v : ℕ) → i < 4 → v < 65536 → return_quarters (set_part 16 x i v) y ≡ set (return_quarters x y) i v
unfolding return_quarters
set_low_return x y zero v l b = grind arith
set_low_return x y (suc zero) v l b = grind arith
set_low_return x y (suc (suc zero)) v l b = grind arith
set_low_return x y (suc (suc (suc zero))) v l b = grind arith
set_low_return x y (suc (suc (suc (suc i)))) v l b = absurd (omega arith)

pub set_high_return : (x y i v : ℕ) → 4 ≤ i → i < 8 → v < 65536 → return_quarters x (set_part 16 y (i - 4) v) ≡ set (return_quarters x y) i v
unfolding return_quarters
set_high_return x y zero v g l b = absurd (omega arith)
set_high_return x y (suc zero) v g l b = absurd (omega arith)
set_high_return x y (suc (suc zero)) v g l b = absurd (omega arith)
set_high_return x y (suc (suc (suc zero))) v g l b = absurd (omega arith)
set_high_return x y (suc (suc (suc (suc zero)))) v g l b = grind arith
set_high_return x y (suc (suc (suc (suc (suc zero))))) v g l b = grind arith
set_high_return x y (suc (suc (suc (suc (suc (suc zero)))))) v g l b = grind arith
set_high_return x y (suc (suc (suc (suc (suc (suc (suc zero))))))) v g l b = grind arith
set_high_return x y (suc (suc (suc (suc (suc (suc (suc (suc i)))))))) v g l b = absurd (omega arith)

-- a list of eight, by its elements
pub return_list_elements : (xs : List ℕ) → length xs ≡ 8 → (get_or xs 0 0 ∷ get_or xs 1 0 ∷ get_or xs 2 0 ∷ get_or xs 3 0 ∷ get_or xs 4 0 ∷ get_or xs 5 0 ∷ get_or xs 6 0 ∷ get_or xs 7 0 ∷ []) ≡ xs
return_list_elements ([]) p = absurd (omega arith)
return_list_elements (a ∷ []) p = absurd (omega arith)
return_list_elements (a ∷ b ∷ []) p = absurd (omega arith)
return_list_elements (a ∷ b ∷ c ∷ []) p = absurd (omega arith)
return_list_elements (a ∷ b ∷ c ∷ d ∷ []) p = absurd (omega arith)
return_list_elements (a ∷ b ∷ c ∷ d ∷ e ∷ []) p = absurd (omega arith)
return_list_elements (a ∷ b ∷ c ∷ d ∷ e ∷ f ∷ []) p = absurd (omega arith)
return_list_elements (a ∷ b ∷ c ∷ d ∷ e ∷ f ∷ g ∷ []) p = absurd (omega arith)
return_list_elements (a ∷ b ∷ c ∷ d ∷ e ∷ f ∷ g ∷ h ∷ []) p = refl
return_list_elements (a ∷ b ∷ c ∷ d ∷ e ∷ f ∷ g ∷ h ∷ i ∷ xs) p = absurd (omega arith)

-- a Cpu is packed whole, from RS 0
pub packed_whole : (x : PackedCpu) (m : Cpu) (low high : List ℕ) → x.psl ≡ 0 → x.counter ≡ m.counter → m.counter < 65536 → x.psu ≡ m.psu → m.psu < 256 → register_bytes x.registers ≡ m.registers → quarters x.low ≡ low → quarters x.high ≡ high → low ++ high ≡ m.returns → with_psl (cpu_of x) m.psl ≡ m
unfolding cpu_of with_psl in_bank_order return_quarters when◌then◌else◌
packed_whole x m low high z p l q k r s t u =
    let c : m.counter % 65536 ≡ m.counter = omega arith in
    let d : m.psu % 256 ≡ m.psu = omega arith in
    rw (z, p, q, c, d, r, ap (λ (xs : List ℕ). xs ++ quarters x.high) s, ap (λ (xs : List ℕ). low ++ xs) t, u)

-- what the proofs of the packed form look for
pub ruleset packed_laws = (set_part_law, swap_banks_law, get_register, set_register, swap_twice, get_low_return, get_high_return, set_low_return, set_high_return, unswapped_registers, unswapped_psu, swapped_registers, swapped_psu)
