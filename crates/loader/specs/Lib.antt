-- Definitions that must be believed.
pub mod Fresh
-- Laws that the checker has shown.
pub mod FreshLaws
