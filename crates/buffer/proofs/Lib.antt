-- Laws of reading the values buffer.
pub mod CellAt
pub mod Ahead
pub mod GoodValues
pub mod Walk
pub mod Loading
