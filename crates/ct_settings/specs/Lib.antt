pub mod Paths
pub mod Names
pub mod Values
pub mod Rows
pub mod Table
pub mod Places
pub mod Seen
