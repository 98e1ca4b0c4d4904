pub mod Expansion
pub mod Table
pub mod Machine
