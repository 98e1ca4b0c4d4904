pub mod NameRules
pub mod Rules
