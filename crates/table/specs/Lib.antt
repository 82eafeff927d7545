pub mod Ask
pub mod Ride
pub mod Kept
pub mod Chains
pub mod Filled
