-- What the batch prints of its early end.
pub mod Stops
