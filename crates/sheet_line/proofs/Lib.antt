pub mod WidthLaws
pub mod PutLaws
pub mod LineLaws
