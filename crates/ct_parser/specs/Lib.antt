pub mod Parses
pub mod Unsupported
pub mod Progress
