pub mod Gathering
pub mod Scanning
pub mod Kept
pub mod Along
