pub mod Sequence
pub mod Comparison
pub mod Bench
pub mod Sum
pub mod Reasons
pub mod Validity
