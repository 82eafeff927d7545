pub mod Puts
pub mod Files
pub mod Known
pub mod Windows
