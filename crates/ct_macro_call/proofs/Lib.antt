mod Texts
mod Forms
pub mod Collecting
pub mod Pasting
pub mod Substituting
