-- Theorems and laws that the checker has shown: IsolationTheorem is demand 3, LockTheorem what becomes of locked bytes; ChangeLaws carries
-- these. They stand here, and not in specs/, so that an edit of a definition is refused where it makes one of them false.
pub mod ChangeLaws
pub mod IsolationTheorem
pub mod LockTheorem
-- Laws that only proofs need.
pub mod LoadedSlotLaws
pub mod DrainingLaws
pub mod LoadingLaws
