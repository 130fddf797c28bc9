-- The operations on good values.
mod Base
mod Terms
pub mod GoodLaws
pub mod OutcomeLaws
pub mod FitLaws
pub mod SingleLaws
pub mod LeafLaws
pub mod DoubleLaws
pub mod TestLaws
mod Common
