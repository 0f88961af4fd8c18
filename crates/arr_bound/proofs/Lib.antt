pub mod Words
pub mod Picked
pub mod Filled
pub mod Large
pub mod Tables
pub mod Whole
