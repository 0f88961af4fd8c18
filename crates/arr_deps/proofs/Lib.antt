pub mod RowsBy
pub mod ClassTests
pub mod Turned
