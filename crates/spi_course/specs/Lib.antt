pub mod Courses
pub mod Fit
