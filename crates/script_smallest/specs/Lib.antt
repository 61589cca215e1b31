pub mod Smallest
pub mod SmallestScripts
