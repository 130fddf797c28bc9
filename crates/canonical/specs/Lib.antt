-- Values whose sets are in order and have a type.
pub mod Ordered
pub mod Shared
