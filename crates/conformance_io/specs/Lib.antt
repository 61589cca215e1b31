pub mod Changes
pub mod Numbers
pub mod Outcome
pub mod Records
pub mod Text
