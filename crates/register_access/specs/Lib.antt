pub mod RegisterRead
pub mod Store
pub mod StoreSentences
pub mod ReadSentences
