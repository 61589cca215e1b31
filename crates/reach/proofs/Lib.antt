pub mod DifferenceLaws
pub mod OneWordLaws
pub mod OrderLaws
pub mod OneActionLaws
pub mod Differing
