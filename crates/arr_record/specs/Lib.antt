pub mod Parts
pub mod Runs
pub mod Examples
pub mod Ledger
