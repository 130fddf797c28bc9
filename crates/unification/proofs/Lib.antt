-- That the computed answer is right: one equation (Join, Merging, Step), the marks (Resolve, Sweeps), both together (Whole, ModelLaws).
pub mod Join
pub mod Merging
pub mod Counting
pub mod Step
pub mod Loops
pub mod Resolve
pub mod Sweeps
pub mod Whole
pub mod ModelLaws
pub mod Answers
