pub mod Row
pub mod Whole
