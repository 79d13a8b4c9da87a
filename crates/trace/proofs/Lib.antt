pub mod Longest
pub mod Pieces
pub mod Signals
