pub mod PartLaws
pub mod LookLaws
