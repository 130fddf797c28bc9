-- Laws of relations in the arena.
mod Terms
pub mod PairLaws
pub mod ImageLaws
