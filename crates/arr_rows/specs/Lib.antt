pub mod Rows
pub mod Courses
