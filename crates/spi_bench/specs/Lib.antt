pub mod Whole
pub mod Parts
pub mod Sums
pub mod Slots
