pub mod Puts
pub mod PlanFile
pub mod Known
