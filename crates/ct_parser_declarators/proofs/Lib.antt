pub mod Forms
pub mod Others
