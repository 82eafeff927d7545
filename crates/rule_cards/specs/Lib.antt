pub mod Cards
pub mod Fit
pub mod Laid
pub mod Unique
