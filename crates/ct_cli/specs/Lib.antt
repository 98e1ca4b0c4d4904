pub mod Ending
pub mod Systems
