pub mod Fits
pub mod Front
