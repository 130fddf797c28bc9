-- What the functions over the places of a table say.
pub mod Rows
pub mod Steps
