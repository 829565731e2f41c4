-- Definitions that must be believed, in reading order.
pub mod HostCalls
pub mod Upgrading
pub mod PatternFiles
pub mod BenchRun
pub mod HostIsolation
-- Laws that the checker has shown.
pub mod PatternFileLaws
pub mod HostIsolationTheorem
pub mod UpgradeTheorem
