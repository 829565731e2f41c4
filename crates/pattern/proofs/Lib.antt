-- Laws that only proofs need.
pub mod ReadingLaws
pub mod WritingLaws
