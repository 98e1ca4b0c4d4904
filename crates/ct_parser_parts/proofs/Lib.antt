pub mod Taking
pub mod Rules
