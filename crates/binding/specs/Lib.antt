-- The identifiers of a table as words.
pub mod Words
