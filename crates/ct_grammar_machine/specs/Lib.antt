pub mod Algebra
pub mod Frames
pub mod Steps
pub mod Reading
