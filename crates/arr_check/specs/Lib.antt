pub mod Classed
pub mod Tables
pub mod Known
pub mod Leaves
pub mod Steps
pub mod Places
pub mod Stages
pub mod Judged
