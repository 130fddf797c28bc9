-- Laws of values in the arena.
mod Base
pub mod Cycle
pub mod CodeLaws
pub mod Standing
pub mod Beginnings
pub mod CellOrder
pub mod RowOrder
pub mod ValueParts
pub mod FrontLaws
pub mod EvenLaws
pub mod CompareLaws
pub mod MadeLaws
