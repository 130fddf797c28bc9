-- Sets in the arena.
pub mod Fronts
pub mod Rows
