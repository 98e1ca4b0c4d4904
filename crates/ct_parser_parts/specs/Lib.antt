pub mod Reach
pub mod Taking
pub mod Parts
pub mod Views
