pub mod Laws
pub mod Fetch
