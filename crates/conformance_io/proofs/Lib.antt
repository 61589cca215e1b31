pub mod TextLaws
pub mod ChangesLaws
