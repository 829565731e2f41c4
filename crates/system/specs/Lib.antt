-- Definitions that must be believed, in reading order.
pub mod System
pub mod Conditions
pub mod Running
-- Laws that the checker has shown. Those on rounds are in proofs/.
pub mod OutcomeLaws
pub mod ConditionLaws
pub mod SlotMachineLaws
pub mod PatchLaws
-- What theorems speak of.
pub mod RoundsKept
