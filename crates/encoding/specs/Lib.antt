-- Definitions that must be believed, in reading order.
pub mod StateEncoding
pub mod TableEncoding
-- Laws that the checker has shown.
pub mod StateRoundTripLaws
pub mod TableRoundTripLaws
