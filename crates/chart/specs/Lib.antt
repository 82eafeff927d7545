pub mod Chart
pub mod Net
pub mod Unique
