pub mod Reading
pub mod Directives
pub mod Files
pub mod Steps
pub mod Units
