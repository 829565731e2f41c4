-- Names for lists of definitions: `unfolding cpu_definitions` opens registers, status words and return addresses.
-- Nothing here has to be believed.
use Rattle.registers.specs.Cpu.{call_of, counter_of, fresh_cpu, psl_of, psu_of, register_index, register_of, return_of, return_from_call_of, with_counter, with_psl, with_psu, with_register, with_return}

-- registers, status words and return addresses
unfoldable pub cpu_definitions : Type 0
unfolding fresh_cpu counter_of psu_of psl_of register_index register_of return_of with_counter with_register with_psu with_psl with_return call_of return_from_call_of
cpu_definitions = Unit {0}
