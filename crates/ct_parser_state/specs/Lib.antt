pub mod Names
pub mod Table
pub mod Terminals
pub mod Code
