pub mod Rule
pub mod Held
pub mod Cursor
