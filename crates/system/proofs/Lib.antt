-- Theorems and laws that the checker has shown, for the layers above. They stand here, and not in specs/, so that an edit of a definition
-- is refused where it makes one of them false.
pub mod RoundLaws
-- Laws that only proofs need.
pub mod RunningLaws
