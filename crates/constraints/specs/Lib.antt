-- The arrays that hold a table's constraints.
pub mod Constrained
pub mod Rules
