pub mod Fields
pub mod Bytes
pub mod Splices
pub mod Stores
pub mod Puts
pub mod Packing
pub mod Joined
