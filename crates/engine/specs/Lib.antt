pub mod Answer
pub mod Cases
pub mod Instant
pub mod Publish
pub mod Reached
pub mod Runner
pub mod Story
pub mod Theorem
