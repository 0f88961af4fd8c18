pub mod Turns
pub mod Kept
pub mod Rows
pub mod Lanes
pub mod Parts
pub mod Rests
pub mod Parted
pub mod Widths
