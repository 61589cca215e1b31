pub mod PossibleLaws
pub mod CommonDeclineLaws
pub mod TableLaws
pub mod DeclineLaws
pub mod PossibleDevice
