pub mod ReadLaws
pub mod PlayLaws
pub mod AnswerLaws
pub mod WrittenScript
