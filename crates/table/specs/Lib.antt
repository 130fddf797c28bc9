-- What the functions of this crate compute, in the terms of the rules.
pub mod Codes
pub mod Layout
pub mod Places
