pub mod Rides
pub mod Report
pub mod Pages
