pub mod Words
pub mod Meaning
pub mod Project
pub mod Stops
