pub mod Riding
pub mod Telling
pub mod Once
