mod Tables
mod Steps
pub mod Weights
mod Unique
mod Readings
mod Puts
mod OneText
mod EachReading
mod EachList
