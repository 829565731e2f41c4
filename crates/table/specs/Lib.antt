-- Definitions that must be believed, in reading order.
pub mod Table
pub mod Extents
pub mod FreeExtentsListed
pub mod FreeBytes
pub mod Sound
pub mod Recounting
pub mod TableConditions
-- What private code is held to. No definition above mentions it.
pub mod Gaps
-- Names for lists of definitions.
pub mod TableDefinitions
-- Laws that the checker has shown. The theorems on free extents and free bytes are in proofs/.
pub mod SoundLaws
pub mod PartitionByteLaws
pub mod CheckLaws
pub mod TableConditionLaws
pub mod RecountingLaws
pub mod ExtentLaws
