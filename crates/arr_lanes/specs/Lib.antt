pub mod Spares
pub mod Lanes
pub mod Sums
