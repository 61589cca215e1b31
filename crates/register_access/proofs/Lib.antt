pub mod AcceptedLaws
pub mod ReadSentences
pub mod AppliedLaws
pub mod LaunchSentences
pub mod StoreSentences
