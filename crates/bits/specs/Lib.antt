pub mod Field
pub mod Word
pub mod Packed
