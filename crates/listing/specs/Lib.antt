-- The listing of a table.
pub mod Listing
