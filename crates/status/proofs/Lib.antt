pub mod Clashes
pub mod Deciding
pub mod Firing
pub mod Masks
pub mod Parts
pub mod Reading
pub mod Resolving
