-- What Check answers, and what its internal functions say.
pub mod Solving
pub mod Attempts
pub mod Answers
