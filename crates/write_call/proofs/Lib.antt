pub mod Adding
pub mod Judged
pub mod Half
pub mod Whole
pub mod Results
