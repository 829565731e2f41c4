-- Laws that only proofs need.
pub mod VersionLaws
