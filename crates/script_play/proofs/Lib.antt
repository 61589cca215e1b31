pub mod ControllerLaws
pub mod AnswerLaws
pub mod PlayLaws
pub mod PlaySentences
