-- The values buffer read into the arena.
pub mod Buffer
pub mod Loaded
