-- Laws of the tree of a table's nodes.
pub mod Counting
pub mod Heights
