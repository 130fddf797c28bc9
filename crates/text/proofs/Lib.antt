-- Laws of the lines.
pub mod TextLaws
