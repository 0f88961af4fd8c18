pub mod Far
pub mod Courses
pub mod Strips
