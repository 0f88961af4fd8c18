pub mod Graph
pub mod Classed
