pub mod Judge
pub mod Comes
pub mod Tabled
