pub mod Protection
pub mod Reach
