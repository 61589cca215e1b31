pub mod Banks
pub mod Lent
pub mod LargerBanks
pub mod Sizes
