-- Theorems and laws that the checker has shown: BacklogTheorem is what a backlog fills. They stand here, and not in specs/, so that an edit of
-- a definition is refused where it makes one of them false.
pub mod BacklogLaws
pub mod BacklogTheorem
-- Laws that only proofs need.
pub mod ReportingLaws
pub mod InsertionLaws
pub mod BacklogLineLaws
pub mod ExtentListLaws
