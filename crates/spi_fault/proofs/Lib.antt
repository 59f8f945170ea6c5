pub mod Children
pub mod Passed
pub mod Decided
pub mod First
pub mod Heads
pub mod Texts
pub mod Telling
pub mod Blaming
