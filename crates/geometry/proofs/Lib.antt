pub mod LentLaws
pub mod SizeLaws
pub mod LargerBanks
pub mod FitLaws
pub mod Sizes
