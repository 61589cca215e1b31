pub mod AnswerLaws
pub mod RecordSentences
