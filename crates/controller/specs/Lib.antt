pub mod Protection
pub mod Controller
pub mod Probes
pub mod Loads
pub mod FlashReads
pub mod Waits
pub mod Reasons
pub mod Examples
