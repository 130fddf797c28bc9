-- Forms in prefix order.
pub mod Forms
