pub mod Write
pub mod Effect
pub mod Step
pub mod StepSentences
