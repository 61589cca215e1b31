pub mod MapLaws
pub mod StateLaws
pub mod UsedLaws
