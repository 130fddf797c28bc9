-- Words taken apart and put together, and the terms that they hold.
pub mod WordLaws
pub mod TermLaws
pub mod SaysLaws
