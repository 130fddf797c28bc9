-- Laws of flattening, of marks, of the visit, and the decision that follows.
pub mod Graphs
pub mod FlatLaws
pub mod MarkLaws
pub mod Parts
pub mod Visits
pub mod Answers
pub mod Turns
