-- Laws of the constants in the arena, and of the nodes that build.
pub mod BuiltLaws
pub mod CellLaws
pub mod ConstantLaws
