-- Laws of the crate: links made shorter, two classes made one, and the equations of the stack.
pub mod Shortening
pub mod Joins
pub mod Stacks
pub mod Loops
