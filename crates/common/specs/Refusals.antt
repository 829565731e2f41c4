-- Definitions that must be believed: a refusal is the number of the first condition that holds; and the number of each refusal of the code.
use Rattle.std.specs.Prelude.{ℕ, Bool, List, [], ◌∷◌, Result, Ok, Err}
use Rattle.common.specs.Choice.{when◌then◌else◌}
use Rattle.common.specs.declared.refusals.Refusal.{Refusal}
use Rattle.common.specs.declared.refusals.Refusal.TheVariants.{NotSound, OtherLength, NoSlot, Taken, Empty, Frame, Form, Board, Values, Code, Input, PastEnd, Meets, Unread, NoInput, Short, Size, NoExtent}

-- a condition of document 01's table "Turned back, by place", and its number
pub record Condition : Type 0 where
  pub holds : Bool
  pub number : ℕ

-- a condition as its test and its number: `ltb 7 k gives 3`
infix 70 ◌gives◌
abbrev pub ◌gives◌ : Bool → ℕ → Condition
b gives n = record { holds = b; number = n }

-- the refusal by the first of the conditions that holds, and a if none holds
unfoldable pub unless : {A : Type 0} → (ℕ → A) → List Condition → A → A
unless refused [] a = a
unless refused (k ∷ ks) a = when k.holds then refused k.number else unless refused ks a

-- the number of the first condition that holds, 0 if none does
unfoldable pub refusal_by : List Condition → ℕ
refusal_by conditions = unless (λ n. n) conditions 0

-- ---- the refusals of the code

-- the number that document 01 gives a refusal; 17 and 18 are document 02's
abbrev pub refusal_number : Refusal → ℕ
refusal_number NotSound = 1
refusal_number OtherLength = 2
refusal_number NoSlot = 3
refusal_number Taken = 4
refusal_number Empty = 5
refusal_number Frame = 6
refusal_number Form = 7
refusal_number Board = 8
refusal_number Values = 9
refusal_number Code = 10
refusal_number Input = 11
refusal_number PastEnd = 12
refusal_number Meets = 13
refusal_number Unread = 14
refusal_number NoInput = 15
refusal_number Short = 16
refusal_number Size = 17
refusal_number NoExtent = 18

-- the number of the refusal in an answer, 0 for none
abbrev pub refusal_in : {A : Type 0} → Result A Refusal → ℕ
refusal_in (Ok a) = 0
refusal_in (Err refusal) = refusal_number refusal
