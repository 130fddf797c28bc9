-- The laws that the evaluators' proofs rest on.
pub mod Terms
pub mod RunLaws
pub mod NodeLaws
pub mod SafeLaws
pub mod DispatchLaws
pub mod FormLaws
pub mod BareLaws
pub mod BodyLaws
pub mod ChosenLaws
pub mod RangeLaws
pub mod QuantLaws
pub mod JoinLaws
pub mod BothLaws
pub mod SettleLaws
