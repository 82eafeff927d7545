pub mod Cells
pub mod Nets
pub mod Steps
pub mod Ends
