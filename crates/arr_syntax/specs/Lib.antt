pub mod Grammar
pub mod Filling
pub mod Machine
pub mod Limits
pub mod Run
pub mod Refused
