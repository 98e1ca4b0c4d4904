pub mod Ranges
pub mod Conversion
pub mod Operation
pub mod Layout
pub mod Sizes
