pub mod Words
pub mod Definition
pub mod Calls
pub mod Sets
pub mod Spelled
pub mod Substitution
pub mod Collected
