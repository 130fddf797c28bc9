-- The constants of a table in the arena, and the nodes that build.
pub mod Leaves
pub mod Built
pub mod Constants
