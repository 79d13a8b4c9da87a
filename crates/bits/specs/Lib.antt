pub mod Bits
pub mod Masks
pub mod Members
pub mod Set
