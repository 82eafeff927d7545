pub mod Stepping
pub mod Rows
pub mod Turns
pub mod Answers
pub mod Once
