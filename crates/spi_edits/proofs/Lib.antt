pub mod EditRows
pub mod Whole
pub mod Steps
pub mod OneBench
