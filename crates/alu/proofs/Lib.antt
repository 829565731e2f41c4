-- Laws that only proofs need.
pub mod RotateLaws
