-- Definitions that must be believed, in reading order.
pub mod Psl
pub mod Alu
-- Names for lists of these, for proofs.
pub mod AluDefinitions
-- Laws that the checker has shown.
pub mod RsLaws
