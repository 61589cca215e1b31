pub mod Windows
pub mod Planner
pub mod PlanLaws
pub mod Examples
