pub mod Sheet
pub mod Widths
pub mod PageSheets
