-- Laws of sets merged in the arena.
mod Terms
pub mod MergedLaws
pub mod ComparisonLaws
pub mod CountLaws
pub mod RunLaws
pub mod BuildLaws
pub mod CellMerge
