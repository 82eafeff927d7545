pub mod Network
pub mod Plan
pub mod Tie
pub mod Table
pub mod Sheet
pub mod Legs
pub mod Trial
