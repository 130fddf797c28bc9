-- The tree of a table's nodes.
pub mod Arrays
