-- The lines of a listing.
pub mod Text
pub mod Grown
