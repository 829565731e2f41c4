-- Definitions that must be believed, in reading order.
pub mod Location
pub mod Loading
pub mod Unloading
pub mod Resuming
pub mod Feeding
pub mod Draining
pub mod Calls
pub mod Events
pub mod Isolation
pub mod LockKept
pub mod FitThenLoad
-- Names for lists of definitions.
pub mod CallDefinitions
-- Laws that the checker has shown: FitThenLoadTheorem is what becomes of a load after a fit. The theorems on isolation and on locked bytes are
-- in proofs/.
pub mod CallLaws
pub mod FitThenLoadTheorem
-- What theorems speak of.
pub mod LoadAccepted
