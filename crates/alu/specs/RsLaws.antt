-- Laws that the checker has shown: no result changes RS.
use Rattle.std.specs.Prelude.{ℕ, ◌≡◌, ◌<◌, ◌-◌, ◌/◌, ◌%◌}
use Rattle.std.proofs.Common.{arith}
use Rattle.common.specs.ChoiceLaws.{if_all}
use Rattle.alu.specs.Psl.{bit_rs, with_cc, with_arithmetic_bits}
use Rattle.alu.specs.Alu.{overflow_of, carry_in_of, sum_result_of, load_result_of, compare_result_of, operation_result_of, rotate_result_of, rotate_left_of, rotate_right_of, decimal_adjust_of, test_psl_of}
use Rattle.alu.specs.declared.alu.AluResult.{AluResult}
use Rattle.alu.specs.declared.alu.Operation.{Operation}
use Rattle.alu.specs.declared.alu.Operation.TheVariants.{Lod, Eor, And, Ior, Add, Sub, Com}

with_cc_keeps_rs : (psl cc : ℕ) → bit_rs (with_cc psl cc) ≡ bit_rs psl
with_cc_keeps_rs psl cc = omega arith

arithmetic_bits_keep_rs : (psl cc idc ovf c : ℕ) → ovf < 2 → c < 2 → bit_rs (with_arithmetic_bits psl cc idc ovf c) ≡ bit_rs psl
arithmetic_bits_keep_rs psl cc idc ovf c l m = omega arith

overflow_is_bit : (a b k : ℕ) → overflow_of a b k < 2
unfolding overflow_of
overflow_is_bit a b k = if_all (λ n. n < 2) (λ below. omega arith) (λ n. if_all (λ n. n < 2) (λ inside. omega arith) (λ above. omega arith))

carry_in_is_bit : (psl other : ℕ) → other < 2 → carry_in_of psl other < 2
unfolding carry_in_of
carry_in_is_bit psl other l = if_all (λ n. n < 2) (λ without. l) (λ with. omega arith)

pub load_keeps_rs : (psl v : ℕ) → bit_rs (load_result_of psl v).psl ≡ bit_rs psl
unfolding load_result_of
load_keeps_rs psl v = with_cc_keeps_rs _ _

sum_keeps_rs : (psl a b k : ℕ) → a < 256 → b < 256 → k < 2 → bit_rs (sum_result_of psl a b k).psl ≡ bit_rs psl
unfolding sum_result_of
sum_keeps_rs psl a b k l m n = arithmetic_bits_keep_rs _ _ _ _ _ (overflow_is_bit a b k) (omega arith)

pub operation_keeps_rs : (operation : Operation) (psl a b : ℕ) → a < 256 → b < 256 → bit_rs (operation_result_of operation psl a b).psl ≡ bit_rs psl
unfolding operation_result_of compare_result_of
operation_keeps_rs Lod psl a b l m = load_keeps_rs _ _
operation_keeps_rs Eor psl a b l m = load_keeps_rs _ _
operation_keeps_rs And psl a b l m = load_keeps_rs _ _
operation_keeps_rs Ior psl a b l m = load_keeps_rs _ _
operation_keeps_rs Add psl a b l m = sum_keeps_rs psl a b _ l m (carry_in_is_bit psl 0 (omega arith))
operation_keeps_rs Sub psl a b l m = sum_keeps_rs psl a (255 - b) _ l (omega arith) (carry_in_is_bit psl 1 (omega arith))
operation_keeps_rs Com psl a b l m = with_cc_keeps_rs _ _

rotate_keeps_rs : (psl a v c : ℕ) → c < 2 → bit_rs (rotate_result_of psl a v c).psl ≡ bit_rs psl
unfolding rotate_result_of
rotate_keeps_rs psl a v c l = arithmetic_bits_keep_rs _ _ _ _ _ (omega arith) l

pub rotate_left_keeps_rs : (psl a : ℕ) → a < 256 → bit_rs (rotate_left_of psl a).psl ≡ bit_rs psl
unfolding rotate_left_of
rotate_left_keeps_rs psl a l =
    if_all (λ (r : AluResult). bit_rs r.psl ≡ bit_rs psl) (λ without. load_keeps_rs _ _) (λ with. rotate_keeps_rs psl a _ (a / 128) (omega arith))

pub rotate_right_keeps_rs : (psl a : ℕ) → bit_rs (rotate_right_of psl a).psl ≡ bit_rs psl
unfolding rotate_right_of
rotate_right_keeps_rs psl a =
    if_all (λ (r : AluResult). bit_rs r.psl ≡ bit_rs psl) (λ without. load_keeps_rs _ _) (λ with. rotate_keeps_rs psl a _ (a % 2) (omega arith))

pub decimal_adjust_keeps_rs : (psl a : ℕ) → bit_rs (decimal_adjust_of psl a).psl ≡ bit_rs psl
unfolding decimal_adjust_of
decimal_adjust_keeps_rs psl a = load_keeps_rs _ _

pub test_keeps_rs : (psl v mask : ℕ) → bit_rs (test_psl_of psl v mask) ≡ bit_rs psl
unfolding test_psl_of
test_keeps_rs psl v mask = with_cc_keeps_rs _ _

-- all of them, for a layer that knows a bank by RS
pub ruleset rs_laws = (load_keeps_rs, operation_keeps_rs, rotate_left_keeps_rs, rotate_right_keeps_rs, decimal_adjust_keeps_rs, test_keeps_rs)
