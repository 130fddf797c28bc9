-- What merging classes says.
pub mod Merging
pub mod Finding
pub mod Joining
pub mod Turning
