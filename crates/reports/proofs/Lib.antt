-- Laws of the report of an evaluation.
pub mod ReportLaws
pub mod ToldLaws
