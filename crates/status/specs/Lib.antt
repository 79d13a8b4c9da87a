pub mod Configuration
pub mod Equations
pub mod Fired
pub mod Solved
pub mod Status
pub mod StatusLaws
pub mod StatusSystem
pub mod Words
