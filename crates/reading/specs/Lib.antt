-- What the functions of this crate compute, in the terms of the rules.
pub mod Answers
