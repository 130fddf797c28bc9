-- What the public functions answer, and what demand 3 says of it.
pub mod Guarantee
pub mod Answers
