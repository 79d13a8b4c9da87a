pub mod Digits
pub mod Masks
pub mod Members
pub mod Sets
pub mod Unions
