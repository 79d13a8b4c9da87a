pub mod Plan
pub mod PlanLaws
pub mod Rooms
