-- Laws of values built in the arena.
pub mod Base
mod Terms
pub mod GrowLaws
pub mod ScalarLaws
pub mod WalkLaws
