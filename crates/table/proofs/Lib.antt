-- Laws that the proofs of this crate's functions, and of those above, share.
pub mod Access
pub mod Least
pub mod Fields
