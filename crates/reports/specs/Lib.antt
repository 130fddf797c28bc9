-- The report of an evaluation.
pub mod Result
pub mod Told
