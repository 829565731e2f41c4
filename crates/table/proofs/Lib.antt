-- Theorems and laws that the checker has shown, for the layers above: ExtentsTheorem is what the free extents are, FreeBytesTheorem what a
-- table keeps of them; the others carry these. They stand here, and not in specs/, so that an edit of a definition is refused where it makes
-- one of them false.
pub mod ExtentTotalLaws
pub mod ExtentsTheorem
pub mod GapLaws
pub mod FreeBytesTheorem
-- What private functions cite.
pub mod ZeroLaws
