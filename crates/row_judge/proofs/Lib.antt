pub mod JudgeLaws
pub mod StartLaws
pub mod DeclineLaws
