pub mod Causes
pub mod Taken
pub mod Std
pub mod Buffered
