pub mod SheetFile
pub mod InPlace
pub mod Asked
pub mod Unique
pub mod Window
pub mod Judged
pub mod Fields
