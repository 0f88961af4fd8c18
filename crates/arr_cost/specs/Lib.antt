pub mod Types
pub mod Touches
pub mod Footprints
pub mod Blocks
