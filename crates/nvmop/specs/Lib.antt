pub mod Operation
pub mod Bench
pub mod Failing
