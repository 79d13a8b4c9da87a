pub mod Chosen
pub mod Folding
pub mod Keeping
pub mod Moving
pub mod Numbered
pub mod Reacting
pub mod Settling
