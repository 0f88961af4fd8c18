pub mod Strided
pub mod Views
pub mod Walks
