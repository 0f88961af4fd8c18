pub mod Numbers
pub mod Kinds
pub mod Types
pub mod Laws
