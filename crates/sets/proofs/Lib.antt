-- Laws of sets in the arena.
pub mod Base
mod Terms
pub mod MemberLaws
pub mod KeyLaws
pub mod SearchLaws
pub mod RowLaws
pub mod TurnLaws
