pub mod Values
pub mod Trees
pub mod Words
pub mod Machine
pub mod Conditions
pub mod View
