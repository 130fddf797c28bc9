-- Values in the arena and in the values buffer.
pub mod Code
