-- Laws of domain and range in the arena.
mod Terms
pub mod PartLaws
pub mod InsertLaws
pub mod TakeLaws
