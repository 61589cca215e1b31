pub mod OperationLaws
pub mod Bench
pub mod Failing
