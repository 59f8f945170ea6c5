pub mod Answered
pub mod Existing
pub mod Heads
pub mod Passing
pub mod Spelled
pub mod Stacked
pub mod Written
