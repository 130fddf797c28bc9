-- Sets merged in the arena.
pub mod Walks
pub mod RowMerges
