-- Laws that the checker has shown: what holds of a Cpu, of its addresses and of PSU, and is kept by each of the changes of which
-- every instruction is made, is kept by what instructions do to the Cpu.
use Rattle.std.specs.Prelude.{ℕ, ◌<◌, ℤ, pos, negsuc}
use Rattle.std.proofs.Common.{arith}
use Rattle.steps.specs.Address.{add_in_page, add_wrapping, address_of, displacement_of, displaced_of, relative_of}
use Rattle.cpu.specs.Branch.{register_counted_of, clear_ii_of}
use Rattle.steps.specs.Operand.{stepped_index_of}
use Rattle.steps.specs.Result.{address_after, advanced_of}
use Rattle.registers.specs.AluResults.{with_alu_result}
use Rattle.registers.specs.Cpu.{with_sp, without_ii, stored_psu, counter_of, psu_of, return_of, with_counter, with_register, with_psu, with_psl, with_return, call_of, return_from_call_of}
use Rattle.common.specs.ChoiceLaws.{if_all}
use Rattle.common.specs.declared.places.Address.{Address}
use Rattle.alu.specs.declared.alu.AluResult.{AluResult}
use Rattle.decode.specs.declared.decode.BranchKind.{BranchKind}
use Rattle.decode.specs.declared.decode.BranchKind.TheVariants.{Bct, Bcf, Brn, Bir, Bdr, Bst, Bsf, Bsn}
use Rattle.registers.specs.declared.cpu.Cpu.{Cpu}

-- an invariant says something of a Cpu, of the addresses that a machine comes to, and of the values of PSU.
-- A new one is an instance of this record, and no instruction is looked at again
pub record Invariant : Type 1 where
  pub OfCpu : Cpu → Type 0
  pub OfAddress : Address → Type 0
  pub OfPsu : ℕ → Type 0
  -- the parts of a Cpu
  pub counter : (cpu : Cpu) → OfCpu cpu → OfAddress (counter_of cpu)
  pub return_address : (cpu : Cpu) (sp : ℕ) → OfCpu cpu → OfAddress (return_of cpu sp)
  pub psu : (cpu : Cpu) → OfCpu cpu → OfPsu (psu_of cpu)
  -- the addresses that are made of others, and of bytes
  pub in_page : (a : Address) (k : ℕ) → OfAddress a → OfAddress (add_in_page a k)
  pub wrapping : (a : Address) (k : ℕ) → OfAddress (add_wrapping a k)
  pub from_bytes : (high low : ℕ) → OfAddress (address_of high low)
  -- the values that PSU gets
  pub stored_psu_law : (v : ℕ) → OfPsu (stored_psu v)
  pub with_sp_law : (v sp : ℕ) → sp < 8 → OfPsu v → OfPsu (with_sp v sp)
  pub without_ii_law : (v : ℕ) → OfPsu v → OfPsu (without_ii v)
  -- the changes
  pub with_counter_law : (cpu : Cpu) (a : Address) → OfAddress a → OfCpu cpu → OfCpu (with_counter cpu a)
  pub with_register_law : (cpu : Cpu) (r v : ℕ) → OfCpu cpu → OfCpu (with_register cpu r v)
  pub with_psu_law : (cpu : Cpu) (v : ℕ) → OfPsu v → OfCpu cpu → OfCpu (with_psu cpu v)
  pub with_psl_law : (cpu : Cpu) (v : ℕ) → OfCpu cpu → OfCpu (with_psl cpu v)
  pub with_return_law : (cpu : Cpu) (sp : ℕ) (a : Address) → OfAddress a → OfCpu cpu → OfCpu (with_return cpu sp a)

-- a Cpu is changed into one of which every invariant holds that held of it
abbrev pub KeepsInvariants : Cpu → Cpu → Type 1
KeepsInvariants cpu next = (i : Invariant) → i.OfCpu cpu → i.OfCpu next

-- a Cpu leads to an address: every invariant that holds of the one holds of the other
abbrev pub LeadsTo : Cpu → Address → Type 1
LeadsTo cpu a = (i : Invariant) → i.OfCpu cpu → i.OfAddress a

-- the addresses that a Cpu leads to
pub lead_after : (cpu : Cpu) (k : ℕ) → LeadsTo cpu (address_after cpu k)
lead_after cpu k i s = i.in_page _ k (i.counter cpu s)

pub lead_bytes : (cpu : Cpu) (high low : ℕ) → LeadsTo cpu (address_of high low)
lead_bytes cpu high low i s = i.from_bytes high low

pub lead_wrapping : (cpu : Cpu) (a : Address) (k : ℕ) → LeadsTo cpu (add_wrapping a k)
lead_wrapping cpu a k i s = i.wrapping a k

lead_displaced : (cpu : Cpu) (a : Address) (d : ℤ) → LeadsTo cpu a → LeadsTo cpu (displaced_of a d)
unfolding displaced_of
lead_displaced cpu a (pos d) h i s = i.in_page a d (h i s)
lead_displaced cpu a (negsuc d) h i s = i.in_page a _ (h i s)

pub lead_relative : (cpu : Cpu) (a : Address) (b : ℕ) → LeadsTo cpu a → LeadsTo cpu (relative_of a b)
unfolding relative_of
lead_relative cpu a b h = lead_displaced cpu a (displacement_of b) h

-- the changes that instructions are made of
pub keep_advanced : (cpu : Cpu) (k : ℕ) → KeepsInvariants cpu (advanced_of cpu k)
unfolding advanced_of
keep_advanced cpu k i s = i.with_counter_law cpu _ (lead_after cpu k i s) s

pub keep_alu_result : (cpu : Cpu) (r : ℕ) (o : AluResult) → KeepsInvariants cpu (with_alu_result cpu r o)
unfolding with_alu_result
keep_alu_result cpu r o i s = i.with_psl_law _ _ (i.with_register_law cpu r _ s)

pub keep_call : (cpu : Cpu) (back : Address) (i : Invariant) → i.OfAddress back → i.OfCpu cpu → i.OfCpu (call_of cpu back)
unfolding call_of
keep_call cpu back i h s = i.with_psu_law _ _ (i.with_sp_law _ _ (omega arith) (i.psu cpu s)) (i.with_return_law cpu _ back h s)

pub keep_return_from_call : (cpu : Cpu) → KeepsInvariants cpu (return_from_call_of cpu)
unfolding return_from_call_of
keep_return_from_call cpu i s = i.with_psu_law _ _ (i.with_sp_law _ _ (omega arith) (i.psu cpu s)) (i.with_counter_law cpu _ (i.return_address cpu _ s) s)

pub keep_clear_ii : (cpu : Cpu) → KeepsInvariants cpu (clear_ii_of cpu)
unfolding clear_ii_of
keep_clear_ii cpu i s = i.with_psu_law cpu _ (i.without_ii_law _ (i.psu cpu s)) s

pub keep_index : (cpu : Cpu) (r control v : ℕ) → KeepsInvariants cpu (stepped_index_of cpu r control v)
unfolding stepped_index_of
keep_index cpu r control v i s = if_all i.OfCpu (λ e. s) (λ e. i.with_register_law cpu r v s)

pub keep_counted : (kind : BranchKind) (cpu : Cpu) (r : ℕ) → KeepsInvariants cpu (register_counted_of kind cpu r)
unfolding register_counted_of
keep_counted Bct cpu r i s = s
keep_counted Bcf cpu r i s = s
keep_counted Brn cpu r i s = s
keep_counted Bir cpu r i s = i.with_register_law cpu r _ s
keep_counted Bdr cpu r i s = i.with_register_law cpu r _ s
keep_counted Bst cpu r i s = s
keep_counted Bsf cpu r i s = s
keep_counted Bsn cpu r i s = s
