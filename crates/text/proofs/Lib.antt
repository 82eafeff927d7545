pub mod Adding
pub mod Decimal
