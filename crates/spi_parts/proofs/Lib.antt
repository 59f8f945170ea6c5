pub mod Bridge
pub mod Behind
pub mod Alone
pub mod Processes
pub mod Answers
pub mod Placed
pub mod Whole
