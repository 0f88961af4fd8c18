pub mod Rising
pub mod Shifting
