-- Definitions that must be believed.
pub mod Decode
-- Laws that the checker has shown.
pub mod DecodeLaws
-- Names for lists of definitions.
pub mod DecodeDefinitions
