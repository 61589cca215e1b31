pub mod StartedUp
pub mod StartUp
pub mod StartUpSentences
