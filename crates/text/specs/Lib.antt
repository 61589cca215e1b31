pub mod Buffer
pub mod Digits
pub mod Lines
pub mod LineSentences
