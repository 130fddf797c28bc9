-- The evaluation of the nodes of a readable table over an arena.
pub mod Answers
pub mod Cycle
pub mod Nodes
