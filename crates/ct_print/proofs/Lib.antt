pub mod Chain
pub mod Steps
pub mod Joining
pub mod Gaps
pub mod Standing
pub mod Unstray
pub mod Printed
