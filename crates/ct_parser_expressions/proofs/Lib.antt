pub mod Pulls
pub mod Within
