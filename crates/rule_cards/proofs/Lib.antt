pub mod Departures
pub mod Enough
pub mod Held
pub mod Legs
pub mod Own
pub mod Laying
