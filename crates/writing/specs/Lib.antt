-- Values written in the form of the values buffer.
pub mod Written
