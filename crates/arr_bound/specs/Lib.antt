pub mod Sets
pub mod Picks
pub mod Classes
pub mod Worth
