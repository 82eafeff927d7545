pub mod Reading
pub mod Network
pub mod Fields
pub mod Answers
pub mod InFile
pub mod SoundFile
