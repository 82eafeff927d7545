pub mod Walks
pub mod Bands
pub mod InFile
pub mod Enough
pub mod Turn
