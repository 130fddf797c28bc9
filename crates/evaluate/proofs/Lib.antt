-- The laws that the proofs of Evaluate rest on.
pub mod EntryLaws
