-- The operations of document 01 on good values of the arena, with refusals 15 to 18.
pub mod Good
pub mod Outcomes
pub mod Parts
