pub mod Ends
pub mod Accord
