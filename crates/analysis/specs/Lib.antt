pub mod Reach
pub mod ReachLaws
pub mod Reached
