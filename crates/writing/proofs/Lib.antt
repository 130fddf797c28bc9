-- Laws of values written in the form of the values buffer.
pub mod ValueBytes
pub mod WrittenLaws
