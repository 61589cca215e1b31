pub mod Lanes
pub mod ImageBytes
pub mod RoundTrip
