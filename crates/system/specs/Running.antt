-- Definitions that must be believed: rounds, in which each slot's machine takes its quantum of steps (document 01, "Floor and bays":
-- pass).
use Rattle.std.specs.Prelude.{suc, zero, ℕ, List}
use Rattle.common.specs.Refusals.{refusal_by}
use Rattle.common.specs.Repetition.{times}
use Rattle.cpu.specs.Machine.{Machine, machine_step}
use Rattle.system.specs.Conditions.{system_conditions}
use Rattle.system.specs.System.{Outcome, Patch, System, machine_bytes, machine_in, outcome_by, patch, patched, slot_of}
use Rattle.table.specs.Table.{slot_with_state}
use Rattle.table.specs.declared.table.Slot.{Slot}

-- the lone machine of a slot after its quantum (document 01's stint) of steps
abbrev pub after_quantum : Slot → List ℕ → Machine
after_quantum s memory = times s.partition.quantum machine_step (machine_in s memory)

-- the same of slot k
abbrev pub machine_after_quantum : System → ℕ → Machine
machine_after_quantum x k = after_quantum (slot_of x k) x.memory

-- the machine m written back into slot s: its state, and its bytes
abbrev pub quantum_patch : Slot → Machine → Patch
quantum_patch s m = patch (slot_with_state s m.state) s.partition.base (machine_bytes m)

-- slot k's machine runs for one quantum, and the result is written back
unfoldable pub slot_quantum : ℕ → System → System
slot_quantum k x = patched x k (quantum_patch (slot_of x k) (machine_after_quantum x k))

-- the slots below n take their quanta, in rising number
unfoldable pub slot_quanta : ℕ → System → System
slot_quanta zero x = x
slot_quanta (suc n) x = slot_quantum n (slot_quanta n x)

-- a round (document 01's pass): each of the eight slots takes its quantum
abbrev pub round : System → System
round = slot_quanta 8

-- so many rounds
unfoldable pub after_run : ℕ → System → System
after_run count x = times count round x

-- what a run of so many rounds answers and leaves: only the table and its memory can refuse it
unfoldable pub run_outcome_of : ℕ → System → Outcome
run_outcome_of count x = outcome_by (refusal_by (system_conditions x)) (after_run count x) x
