-- Definitions that must be believed, in reading order.
pub mod Reporting
pub mod BacklogQuery
pub mod FitQuery
pub mod Queries
pub mod BacklogFilled
pub mod FitFound
-- Laws that the checker has shown: FitTheorem is what a fit finds; the others carry it. The theorem on backlogs is in proofs/.
pub mod BacklogOrderLaws
pub mod FitLaws
pub mod FitTheorem
