-- Names for lists of definitions: `unfolding alu_definitions` opens the results and the PSL that they leave. Nothing here has to be believed.
use Rattle.common.specs.Choice.{when◌then◌else◌}
use Rattle.alu.specs.Alu.{adjust_digit_of, carry_in_of, compare_cc_of, compare_result_of, condition_code_of, decimal_adjust_of, load_result_of, operation_result_of, overflow_of, rotate_left_of, rotate_result_of, rotate_right_of, signed_of, sum_result_of, test_cc_of, test_psl_of}

-- results and the PSL that they leave
unfoldable pub alu_definitions : Type 0
unfolding when◌then◌else◌ condition_code_of overflow_of sum_result_of carry_in_of load_result_of signed_of compare_cc_of compare_result_of operation_result_of test_cc_of test_psl_of rotate_result_of rotate_left_of rotate_right_of adjust_digit_of decimal_adjust_of
alu_definitions = Unit {0}
