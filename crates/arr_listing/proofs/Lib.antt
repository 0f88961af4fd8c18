pub mod Rows
pub mod Summing
pub mod Turns
