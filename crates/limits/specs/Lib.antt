pub mod Chain
pub mod ChainLaws
