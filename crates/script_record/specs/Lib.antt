pub mod Record
pub mod RecordSentences
