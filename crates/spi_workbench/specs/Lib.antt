pub mod Reading
pub mod Counting
pub mod Sizes
pub mod Answers
pub mod Behind
pub mod Work
