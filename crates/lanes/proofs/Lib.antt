pub mod TabulateLaws
pub mod LaneLaws
pub mod MoveLaws
pub mod DeclineLaws
pub mod ImageBytesLaws
pub mod RoundTrip
