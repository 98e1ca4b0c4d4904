pub mod Answers
pub mod Words
pub mod Names
pub mod Expressions
pub mod Statements
pub mod Functions
pub mod Form
pub mod Readers
