-- What the definitions give, computed: document 01's conditions and further cases.
pub mod Basics
pub mod TypeLaws
pub mod Rows
pub mod Cases
pub mod Tried
