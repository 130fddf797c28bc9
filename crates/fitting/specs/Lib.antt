-- Values in the arena that share a type, refusal 15 as tests on them, and values against types.
pub mod Agree
pub mod Tests
pub mod Types
