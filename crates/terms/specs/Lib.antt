-- Terms of variables in one word each, what a list of them says of types, and what marks of classes say.
pub mod Words
pub mod Terms
pub mod Decided
pub mod Decoding
pub mod Stacks
