pub mod Reach
pub mod Differing
