-- Power sets in the arena.
pub mod Power
