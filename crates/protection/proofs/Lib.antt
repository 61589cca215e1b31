pub mod ProtectionLaws
pub mod Reach
