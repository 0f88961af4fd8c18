pub mod Alike
pub mod Classes
pub mod Marks
pub mod Filters
pub mod Legs
