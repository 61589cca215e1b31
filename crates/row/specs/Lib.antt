pub mod Row
pub mod Choosing
pub mod Supply
pub mod RowCut
pub mod Progress
pub mod Rows
pub mod TwoSigns
pub mod Waiting
