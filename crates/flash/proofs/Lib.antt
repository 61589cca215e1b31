pub mod EffectLaws
pub mod PlaceLaws
pub mod AbortLaws
pub mod AcceptedLaws
pub mod StepLaws
pub mod StepSentences
pub mod WriteLaws
