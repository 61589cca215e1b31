pub mod Interleave
pub mod Blocks
