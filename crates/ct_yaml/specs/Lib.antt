pub mod Line
pub mod Block
pub mod Text
pub mod Reading
pub mod Stack
pub mod Run
pub mod Gives
