pub mod TableLaws
pub mod ByNumber
pub mod NumberLaws
pub mod FieldLaws
