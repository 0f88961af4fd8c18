pub mod Parts
pub mod Marking
pub mod Apart
pub mod Spacing
pub mod Smaller
pub mod Columns
pub mod Runs
pub mod Leading
pub mod Steps
pub mod Counting
pub mod Shared
mod ClassesSeen
mod ClassesMeet
