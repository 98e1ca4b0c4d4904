pub mod Runner
pub mod Linked
