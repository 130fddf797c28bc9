-- How the typing rules of a table become a problem of unification, and Check's answer as a function.
pub mod Plan
pub mod Equations
pub mod Places
pub mod Model
