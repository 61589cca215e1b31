pub mod AcceptedLaws
pub mod WidthLaws
pub mod PutLaws
pub mod PlaceLaws
pub mod LineLaws
pub mod PageSheets
