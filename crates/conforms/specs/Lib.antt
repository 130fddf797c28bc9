-- Values of the types in a sheet.
pub mod Conforming
pub mod Rows
