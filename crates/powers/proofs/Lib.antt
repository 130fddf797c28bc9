-- Laws of power sets in the arena.
mod Terms
pub mod SubsetLaws
pub mod PowerOrder
pub mod PowerLaws
