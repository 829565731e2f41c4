-- Definitions that must be believed.
pub mod Slices
pub mod Numbers
-- Laws that the checker has shown.
pub mod SliceLaws
pub mod PieceLaws
pub mod NumberLaws
