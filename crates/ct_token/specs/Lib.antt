pub mod Bytes
pub mod Constants
pub mod Lines
pub mod Lexing
pub mod Fronts
