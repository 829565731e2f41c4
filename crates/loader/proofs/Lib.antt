-- Laws that only proofs need.
pub mod FreshPartLaws
