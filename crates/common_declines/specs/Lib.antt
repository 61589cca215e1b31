pub mod Possible
pub mod CommonDecline
pub mod PossibleDevice
