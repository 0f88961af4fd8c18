pub mod Calls
pub mod Texts
pub mod Plans
pub mod Shown
pub mod Totals
pub mod Examples
