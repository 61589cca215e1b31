pub mod Kind
pub mod Reset
pub mod ResetSentences
