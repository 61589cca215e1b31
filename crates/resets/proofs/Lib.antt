pub mod AcceptedLaws
pub mod DeviceLaws
pub mod ResetSentences
