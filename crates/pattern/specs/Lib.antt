-- Definitions that must be believed, in reading order.
pub mod Parameters
pub mod Frame
pub mod Image
pub mod Reader
pub mod Writer
-- Names for lists of definitions.
pub mod FileDefinitions
-- Laws that the checker has shown: Theorems has what a reader wants, the others carry it.
pub mod ParameterLaws
pub mod FrameLaws
pub mod ImageLaws
pub mod ReaderLaws
pub mod WriterLaws
pub mod RoundTripLaws
pub mod FormOneLaws
pub mod Theorems
pub mod Cases
