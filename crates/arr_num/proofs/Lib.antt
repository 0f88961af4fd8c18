pub mod Wrapping
pub mod Products
pub mod Powers
pub mod Words
pub mod Reading
pub mod Unique
pub mod Folds
