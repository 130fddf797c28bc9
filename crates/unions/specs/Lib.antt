-- The merge of two lent sets.
pub mod Answers
