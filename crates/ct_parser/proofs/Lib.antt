pub mod PartsMap
pub mod Tells
mod ReachLaws
mod ReachTells
mod ItemRead
mod OneUnit
pub mod Loop
pub mod OneMore
pub mod UnsupportedText
pub mod FirstUnsupported
pub mod OneUnsupported
