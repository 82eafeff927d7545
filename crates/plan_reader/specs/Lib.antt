pub mod InPlace
pub mod Unique
pub mod SoundPlan
