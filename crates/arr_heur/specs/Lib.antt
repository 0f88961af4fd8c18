pub mod Planners
pub mod Segments
pub mod Partitions
pub mod Worked
pub mod HeurLaws
