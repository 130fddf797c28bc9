-- Evaluate: what it answers, and the arenas.
pub mod Judged
pub mod Arenas
