pub mod Equations
pub mod Frames
pub mod Strings
pub mod Texts
