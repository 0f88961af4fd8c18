pub mod Casts
pub mod Entries
