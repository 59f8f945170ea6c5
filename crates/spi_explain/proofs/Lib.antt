pub mod Answered
pub mod Beyond
pub mod Shaped
