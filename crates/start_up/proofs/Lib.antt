pub mod StartUpLaws
pub mod StartUpSentences
