-- Laws of identifiers as bits, and of binders.
pub mod Words
pub mod Occurs
