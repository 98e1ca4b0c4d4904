mod Choosing
mod Joining
mod Endings
mod Cutting
mod Naming
mod Names
mod Listing
pub mod Shapes
pub mod Running
pub mod Sound
pub mod Complete
pub mod Broken
pub mod OneGroup
pub mod OneOutline
mod NoPragma
mod EachMeaning
