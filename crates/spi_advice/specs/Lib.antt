pub mod Advising
pub mod Tracing
