-- Laws of the words of rules and of the arrays that hold a table's constraints.
pub mod RuleLaws
pub mod CopyLaws
pub mod PartLaws
pub mod NodeLaws
pub mod BuildLaws
