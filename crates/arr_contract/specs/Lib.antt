pub mod Prepared
pub mod Laws
pub mod Making
