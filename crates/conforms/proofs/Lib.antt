-- Laws of rows of a sheet, and of values against them.
pub mod RowLaws
pub mod ConformingLaws
pub mod NameLaws
pub mod Trials
