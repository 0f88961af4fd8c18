pub mod Trees
pub mod Weights
