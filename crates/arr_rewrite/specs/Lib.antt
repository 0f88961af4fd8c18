pub mod Rules
pub mod Writers
pub mod NextRewrite
pub mod NormalForm
pub mod Settled
pub mod Examples
