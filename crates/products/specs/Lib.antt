-- Values built in the arena from others.
pub mod Growing
