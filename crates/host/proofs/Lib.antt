-- Laws that only proofs need.
pub mod HostCallLaws
pub mod HostFileLaws
pub mod UpgradeLaws
