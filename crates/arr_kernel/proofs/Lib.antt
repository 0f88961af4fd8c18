mod Bits
pub mod Answers
pub mod Signed
mod Unsigned
mod Rounds
pub mod Settled
