-- Definitions that must be believed.
pub mod Lent
-- Laws that the checker has shown.
pub mod AloneLaws
pub mod AgreementLaws
