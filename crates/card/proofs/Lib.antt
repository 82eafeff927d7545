pub mod Counting
pub mod Filling
