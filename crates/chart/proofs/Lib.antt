pub mod Charting
pub mod Net
