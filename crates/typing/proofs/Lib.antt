-- Laws of the problem of a table, of its solutions and of Check's answer.
pub mod PlanLaws
pub mod RefLaws
pub mod VariableLaws
pub mod ProblemLaws
pub mod EquationsLaws
pub mod Extending
pub mod Places
pub mod Verdicts
pub mod VerdictRight
pub mod HoldsLaws
pub mod EquationCounts
pub mod Examples
pub mod RuleChecks
