-- Definitions that must be believed, in reading order.
pub mod Branch
pub mod Psw
pub mod Port
pub mod Instruction
pub mod Machine
pub mod WrtdSteps
-- Names for lists of definitions.
pub mod StepDefinitions
-- Laws that the checker has shown, for the layers above. Those on a step and on the lone machine are in proofs/.
pub mod Cases
pub mod RestLaws
pub mod InvariantLaws
pub mod CpuInvariantLaws
pub mod FillerLaws
-- What theorems speak of.
pub mod Endings
pub mod MachineKept
-- What private code is held to. No definition above mentions these.
pub mod Masked
pub mod PortView
pub mod Partition
