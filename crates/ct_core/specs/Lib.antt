pub mod Memory
pub mod Access
pub mod Testing
pub mod BuiltIns
