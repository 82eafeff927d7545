pub mod Ranges
pub mod Toll
pub mod Price
