-- The problem of unification, what its answer says, and the function that computes the answer.
pub mod Problem
pub mod Codes
pub mod Classes
pub mod Marks
pub mod Solved
pub mod Model
