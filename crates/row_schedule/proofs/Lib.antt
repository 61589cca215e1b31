pub mod ChoiceLaws
pub mod WaiterLaws
pub mod RoundLaws
pub mod ServeLaws
pub mod JudgedLaws
