-- Theorems and laws that the checker has shown: the worked cases, and that the two lines are the lone machine's. They stand here, and not in
-- specs/, so that an edit of a definition is refused where it makes one of them false.
pub mod LoneLaws
pub mod Cases
-- Laws that only proofs need.
pub mod PutTextLaws
pub mod BenchRunLaws
