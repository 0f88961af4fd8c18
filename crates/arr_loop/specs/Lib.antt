pub mod Opened
pub mod Laws
pub mod Ready
pub mod Numbers
pub mod Sums
pub mod Examples
