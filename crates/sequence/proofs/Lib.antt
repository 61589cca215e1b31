pub mod SequenceLaws
pub mod ComparisonLaws
pub mod Bench
pub mod Sum
pub mod Validity
