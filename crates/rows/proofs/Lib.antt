pub mod Steps
pub mod Wholes
