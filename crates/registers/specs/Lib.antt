-- Definitions that must be believed, in reading order.
pub mod Cpu
pub mod AluResults
pub mod State
-- Names for lists of these, for proofs.
pub mod CpuDefinitions
-- What private code is held to. No definition above mentions it.
pub mod PackedCpu
