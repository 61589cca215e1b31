pub mod Round
pub mod Schedule
pub mod Calls
