pub mod Card
pub mod One
