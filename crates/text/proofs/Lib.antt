pub mod BufferLaws
pub mod DigitLaws
pub mod LineLaws
pub mod LineSentences
