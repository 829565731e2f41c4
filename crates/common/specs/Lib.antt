-- Definitions that must be believed.
pub mod Choice
pub mod Tests
pub mod Ranges
pub mod Refusals
pub mod Repetition
pub mod Layout
pub mod Totals
pub mod Ordering
-- Names for lists of definitions.
pub mod ConditionDefinitions
-- Laws that the checker has shown.
pub mod ChoiceLaws
pub mod TestLaws
pub mod AllBelowLaws
pub mod RefusalLaws
pub mod RepetitionLaws
pub mod LayoutLaws
pub mod TotalLaws
pub mod OrderingLaws
pub mod Signed16Laws
