-- Laws of forms in prefix order.
pub mod FormLaws
