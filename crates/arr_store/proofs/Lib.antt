pub mod Numbers
pub mod Tables
pub mod Lawful
pub mod Updates
pub mod Pages
pub mod Places
pub mod Sides
pub mod Picked
