pub mod Play
pub mod PlaySentences
