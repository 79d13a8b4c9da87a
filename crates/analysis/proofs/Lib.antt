pub mod Closure
pub mod Loops
pub mod Reading
