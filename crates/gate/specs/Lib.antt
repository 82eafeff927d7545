pub mod Gate
pub mod Parts
