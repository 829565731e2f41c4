-- Laws that only proofs need.
pub mod WordLaws
pub mod PackedCpuLaws
