pub mod Near
pub mod SameRuns
pub mod WordApart
