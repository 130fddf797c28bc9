-- Laws of sharing a type, of values in the arena that do, and of values against types.
pub mod Sharing
pub mod Cells
pub mod Tests
pub mod Types
