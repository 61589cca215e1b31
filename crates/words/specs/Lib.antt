pub mod Word
pub mod Quad
pub mod Decline
pub mod Numbers
pub mod Lists
