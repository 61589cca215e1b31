pub mod Answers
pub mod NeverWait
