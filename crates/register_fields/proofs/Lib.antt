pub mod FieldLaws
pub mod KeyLaws
pub mod TakesLaws
