pub mod Doing
pub mod World
pub mod Rules
pub mod Meaning
pub mod Program
pub mod Written
pub mod Views
pub mod Calling
