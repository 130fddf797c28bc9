-- Terms as a graph of classes, the marks of classes, and what a visit keeps.
pub mod Marking
pub mod Visit
