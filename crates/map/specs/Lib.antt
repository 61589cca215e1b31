pub mod Apart
pub mod Windows
pub mod Mapped
pub mod Location
