pub mod Ways
pub mod Reach
pub mod Fast
pub mod Blocks
pub mod Standing
pub mod Start
pub mod Bits
pub mod Tables
