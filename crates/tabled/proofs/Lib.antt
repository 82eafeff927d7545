pub mod Judging
pub mod Filling
pub mod Tables
pub mod Serving
pub mod Once
