-- Definitions that must be believed, in reading order.
pub mod Ascii
pub mod UntilStopped
pub mod Text
pub mod BenchListing
-- Names for lists of definitions.
pub mod TextDefinitions
pub mod CaseDefinitions
-- Laws that the checker has shown.
pub mod TextLaws
pub mod ListingLaws
-- What theorems speak of.
pub mod LoneLines
pub mod WorkedCases
