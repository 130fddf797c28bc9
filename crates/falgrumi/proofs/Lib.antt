-- The mission's demands, and laws of the answers.
pub mod Mission
pub mod EndNumbers
pub mod Demand
pub mod CheckedLaws
pub mod CheckedTrials
pub mod Numbers
pub mod MergeLaws
