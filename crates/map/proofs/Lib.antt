pub mod Apart
pub mod WindowLaws
pub mod Mapped
pub mod LocationLaws
