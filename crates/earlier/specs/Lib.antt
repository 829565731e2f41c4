-- Definitions that must be believed.
pub mod EarlierTable
-- Laws that the checker has shown.
pub mod EarlierTableLaws
