pub mod Combine
pub mod Fault
pub mod Kinds
pub mod Next
pub mod React
pub mod Value
pub mod Totals
