pub mod AcceptedLaws
pub mod StepsLaws
