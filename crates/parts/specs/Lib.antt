-- Domain and range in the arena.
pub mod Parts
