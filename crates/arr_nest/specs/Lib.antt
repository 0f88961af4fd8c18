pub mod Indices
pub mod Below
pub mod Laws
