pub mod ServedLaws
pub mod RoundLaws
pub mod PlaceLaws
pub mod RecordsLaws
pub mod WaitsLaws
pub mod SoundLaws
pub mod FairLaws
pub mod ProgressLaws
