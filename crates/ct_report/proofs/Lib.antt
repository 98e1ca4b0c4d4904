pub mod Counted
pub mod Extending
