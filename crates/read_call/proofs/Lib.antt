pub mod Stores
pub mod Listing
pub mod Results
