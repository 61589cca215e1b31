pub mod AcceptedLaws
pub mod PartSentences
