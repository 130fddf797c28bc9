-- Relations in the arena.
pub mod Pairs
