-- Definitions that must be believed.
pub mod MachineRun
