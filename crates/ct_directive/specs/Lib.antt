pub mod Lines
pub mod Forms
pub mod Headers
pub mod Search
pub mod Groups
