-- Laws of values whose sets are in order and have a type.
pub mod Members
pub mod Neighbours
pub mod FineValues
