-- What theorems speak of: the ways in which a step ends, and what it may do.
use Rattle.std.specs.Prelude.{◌≡◌, ℕ, ◌<◌, ◌≤◌, Bool, true, false, List, length}
use Rattle.cpu.specs.InvariantLaws.{KeepsInvariants}
use Rattle.cpu.specs.Port.{Ports}
use Rattle.steps.specs.Result.{Effect, Nothing, Store, Take, Put, StepResult, step_result, running_of, stopped_of}
use Rattle.common.specs.declared.places.Address.{Address}
use Rattle.registers.specs.declared.cpu.Cpu.{Cpu}

-- the nine ways in which a step ends. Two of them are WRTD's, and they are its only ones. Whatever the instruction that stores, the byte is
-- inside the window; at or above the lock it is stored, below it the step stops
pub data Ending (cpu : Cpu) (window : List ℕ) (locked : ℕ) (p : Ports) : Bool → StepResult → Type 1 where
  continues : (next : Cpu) → KeepsInvariants cpu next → Ending cpu window locked p false (running_of next)
  halts : (next : Cpu) → KeepsInvariants cpu next → Ending cpu window locked p false (step_result next 2 Nothing)
  stores : (next : Cpu) (a : Address) (v : ℕ) → KeepsInvariants cpu next → locked ≤ a.0 → a.0 < length window → Ending cpu window locked p false (step_result next 1 (Store a v))
  takes_input : (next : Cpu) → KeepsInvariants cpu next → p.unread ≡ true → Ending cpu window locked p false (step_result next 1 Take)
  wants_input : p.unread ≡ false → Ending cpu window locked p false (stopped_of cpu 3)
  finds_locked : (a : Address) → a.0 < locked → a.0 < length window → Ending cpu window locked p false (stopped_of cpu 8)
  stops : (n : ℕ) → 5 ≤ n → n ≤ 7 → Ending cpu window locked p false (stopped_of cpu n)
  puts_output : (next : Cpu) (v : ℕ) → KeepsInvariants cpu next → p.full ≡ false → Ending cpu window locked p true (step_result next 1 (Put v))
  finds_full : p.full ≡ true → Ending cpu window locked p true (stopped_of cpu 4)

-- a byte is taken only where one is unread, and put out only where there is room
abbrev pub EffectAllowed : Ports → Effect → Type 0
EffectAllowed p Nothing = Unit {0}
EffectAllowed p (Store a v) = Unit {0}
EffectAllowed p Take = p.unread ≡ true
EffectAllowed p (Put v) = p.full ≡ false
